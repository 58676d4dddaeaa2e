-- What follows either way of a call.
use Rattle.std.proofs.Common.{◌≡◌, Option, Some, None, is_some, refl, Result, Ok, Err, OnOk, OnErr}
use Rattle.std.specs.Option.{option_map}

-- what follows where a call has succeeded, and where it has failed
pub on_ok : {T E P Q : Type 0} → (P → Q) → (r : Result T E) → OnOk r P → OnOk r Q
on_ok f (Ok x) p = f p
on_ok f (Err e) p = p

pub on_err : {T E P Q : Type 0} → (P → Q) → (r : Result T E) → OnErr r P → OnErr r Q
on_err f (Ok x) p = p
on_err f (Err e) p = f p

-- what follows either way
pub either : {T E P Q C : Type 0} → (r : Result T E) → OnOk r P → OnErr r Q → (P → C) → (Q → C) → C
either (Ok x) p q f g = f p
either (Err e) p q f g = g q

pub some-mapped : {X Y : Type 0} (f : X → Y) (o : Option X) → is_some (option_map f o) ≡ is_some o
some-mapped f (Some x) = refl
some-mapped f None = refl
