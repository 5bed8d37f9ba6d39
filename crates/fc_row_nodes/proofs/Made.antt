-- What is made of answers that may be none.
use Rattle.std.proofs.Common.{◌≡◌, Bool, true, false, if◌then◌else◌, Option, Some, None, ◌⊎◌, inl, inr}
use Rattle.fc_model.specs.Calling.{first_of}
pub use Rattle.fc_row_types.proofs.Made.{either_way, if_some_inv, made_inv, none_some, part_inv, some, some_some}

pub else_some_inv : {X : Type 0} (b : Bool) (o : Option X) (x : X) → (if b then None else o) ≡ Some x → o ≡ Some x
else_some_inv true o x h = none_some h
else_some_inv false o x h = h

pub first_of_inv : {X : Type 0} (o q : Option X) (x : X) → first_of o q ≡ Some x → (o ≡ Some x) ⊎ (q ≡ Some x)
first_of_inv (Some y) q x h = inl h
first_of_inv None q x h = inr h
