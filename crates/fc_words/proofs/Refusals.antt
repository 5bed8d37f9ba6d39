-- What is asked for where clap gives an error.
use Rattle.std.proofs.Common.{◌≡◌, [], ◌∷◌, Option, None, inl, inr, refl}
use Rattle.clap.specs.Kinds.{HasKind, Kinds}
use Rattle.clap.specs.Values.{kind_of}
use Rattle.clap.specs.declared.error.Error.{Error}
use Rattle.clap.specs.declared.error.kind.ErrorKind.TheVariants as kind
use Rattle.fc_words.specs.Asking.{Asked, unless_refused}

pub refused : (kinds : Kinds) (asked : Option Asked) (e : Error) → HasKind kinds e → (kind_of e ≡ kind.OutOfMemory → ⊥) → unless_refused kinds asked ≡ None
refused [] asked e has other = elim has [ inl memory ↦ absurd (other memory) | inr none ↦ absurd none ]
refused (k ∷ ks) asked e has other = refl
