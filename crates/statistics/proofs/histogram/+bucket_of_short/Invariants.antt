use Rattle.statistics.proofs.histogram.+bucket_of_short.Given as goal

abbrev pub decreases-bucket_of_short : goal.decreases-bucket_of_short
decreases-bucket_of_short l = l.micros
