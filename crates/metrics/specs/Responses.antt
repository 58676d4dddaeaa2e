-- Responses, each the last of its connection (RFC 9112 sections 4, 5 and 9.6; RFC 9110 sections 8.3 and 8.6).
use Rattle.std.specs.Prelude.{ℕ, List, ◌++◌, length, codes, decimal}
use Rattle.metrics.specs.declared.request.RequestRefusal.{RequestRefusal}
use Rattle.metrics.specs.declared.request.RequestRefusal.TheVariants.{Malformed, NotFound, MethodNotAllowed, TooLong}

-- a response with this status and reason, these fields besides, and a body
abbrev pub response : List ℕ → List ℕ → List ℕ → List ℕ
response status fields body =
    codes "HTTP/1.1 " ++ status ++ codes "\r\n" ++ fields ++ codes "Content-Length: " ++ decimal (length body)
    ++ codes "\r\nConnection: close\r\n\r\n" ++ body

-- the metrics, in the text format of Prometheus, version 0.0.4
abbrev pub metrics_response : List ℕ → List ℕ
metrics_response text = response (codes "200 OK") (codes "Content-Type: text/plain; version=0.0.4; charset=utf-8\r\n") text

-- text for people
abbrev pub plain : List ℕ
plain = codes "Content-Type: text/plain; charset=utf-8\r\n"

-- why a request is refused (RFC 9110 section 15.5; RFC 6585 section 5)
abbrev pub refusal_response : RequestRefusal → List ℕ
refusal_response Malformed = response (codes "400 Bad Request") plain (codes "this is no request of HTTP/1.1\n")
refusal_response NotFound = response (codes "404 Not Found") plain (codes "there is nothing but /metrics\n")
refusal_response MethodNotAllowed =
    response (codes "405 Method Not Allowed") (codes "Allow: GET\r\n" ++ plain) (codes "there is nothing but GET\n")
refusal_response TooLong = response (codes "431 Request Header Fields Too Large") plain (codes "the request is too long\n")
