-- An entry of a directory in four parts: what stands before its name, the name, its padding, and the cookie.
use Rattle.std.proofs.Common.{◌≡◌, ap, ◌∙◌, ℕ, List, ◌++◌, length, replicate, append_assoc}
use Rattle.xdr.specs.Shape.{word, hyper, padding, counted}

joined : (out a b name pad c : List ℕ) → (((out ++ (a ++ b)) ++ name) ++ pad) ++ c ≡ out ++ (a ++ ((b ++ (name ++ pad)) ++ c))
joined out a b name pad c = simp append_assoc

pub entry-put : (fileid cookie : ℕ) (out name before first second third fourth : List ℕ) → before ≡ hyper fileid ++ word (length name)
    → first ≡ out ++ before → second ≡ first ++ name → third ≡ second ++ replicate (padding (length name)) 0 → fourth ≡ third ++ hyper cookie
    → fourth ≡ out ++ (hyper fileid ++ (counted name ++ hyper cookie))
entry-put fileid cookie out name before first second third fourth b f s t h =
    let pad : List ℕ = replicate (padding (length name)) 0 in
    h ∙ ap (λ xs. xs ++ hyper cookie) (t ∙ ap (λ xs. xs ++ pad) (s ∙ ap (λ xs. xs ++ name) (f ∙ ap (λ xs. out ++ xs) b)))
    ∙ joined out (hyper fileid) (word (length name)) name pad (hyper cookie)
