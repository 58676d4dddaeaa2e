-- Lines of Prometheus' text format, version 0.0.4: each ends with a line feed. Names and labels here need no escape.
use Rattle.std.specs.Prelude.{ℕ, List, ◌++◌, codes, decimal}

-- what a metric is, and of which type: the lines before its samples
abbrev pub family : List ℕ → List ℕ → List ℕ → List ℕ
family name kind help =
    codes "# HELP " ++ name ++ codes " " ++ help ++ codes "\n# TYPE " ++ name ++ codes " " ++ kind ++ codes "\n"

-- a sample without a label: the metric's name and its value
abbrev pub sample : List ℕ → ℕ → List ℕ
sample name value = name ++ codes " " ++ decimal value ++ codes "\n"

-- a sample with a label
abbrev pub labelled : List ℕ → List ℕ → List ℕ → ℕ → List ℕ
labelled name label text value =
    name ++ codes "{" ++ label ++ codes "=\"" ++ text ++ codes "\"} " ++ decimal value ++ codes "\n"
