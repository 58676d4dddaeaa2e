-- What a request asks for.
use Rattle.std.specs.Prelude.{ℕ, List, if◌then◌else◌, codes, bytes_eq}
use Rattle.httparse.specs.Grammar.{RequestHead}
use Rattle.metrics.specs.declared.request.Asked.{Asked}
use Rattle.metrics.specs.declared.request.Asked.TheVariants.{Metrics, Refused}
use Rattle.metrics.specs.declared.request.RequestRefusal.TheVariants.{NotFound, MethodNotAllowed}

-- the metrics stand at one target (RFC 9110 section 15.5.5), and are told by GET alone (section 15.5.6)
abbrev pub asked_by : List ℕ → List ℕ → Asked
asked_by method target =
    if bytes_eq target (codes "/metrics")
    then (if bytes_eq method (codes "GET") then Metrics else Refused MethodNotAllowed)
    else Refused NotFound

-- what a request's head asks for (RFC 9112 section 3)
abbrev pub asked_for : RequestHead → Asked
asked_for head = asked_by head.method head.target
