mod Doubled
