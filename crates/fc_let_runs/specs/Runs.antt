-- Runs of lets that stand one in the body of the other, whose right sides are atoms: variables, names and literals.
use Rattle.std.specs.Prelude.{◌≡◌, ℕ, zero, suc, Bool, true, false, Option, Some}
use Rattle.fc_model.specs.Calling.{from_some}
use Rattle.fc_model.specs.Nameless.{NExpr, NLet, NoNBinds, MoreNBinds, NBound}
use Rattle.fc_model.specs.Replacing.{Substitution}
use Rattle.fc_model.specs.Typing.{is_atom}
use Rattle.fc_rows.specs.Shrinking.{let_atom}

-- a let of one binding, not recursive, whose right side is an atom
abbrev pub is_let_of_atom : NExpr → Bool
is_let_of_atom (NLet false (MoreNBinds (NBound t a) NoNBinds) b) = is_atom a
is_let_of_atom e = false

-- what the row for lets of what is trivial makes, so many times, one after the other
abbrev pub iterated : ℕ → NExpr → Option NExpr
iterated zero e = Some e
iterated (suc n) e = from_some (iterated n) (let_atom e)

-- one expression becomes another by so many steps of that row, each at a let of an atom
pub data IsRun : ℕ → NExpr → NExpr → Type 0 where
  done : {e : NExpr} → IsRun 0 e e
  step : {n : ℕ} {e f g : NExpr} → is_let_of_atom e ≡ true → let_atom e ≡ Some f → IsRun n f g → IsRun (suc n) e g

-- what stands in place of each variable of a value is an atom
pub record PutsAtoms (r : Substitution) : Type 0 where
  pub atoms : (i : ℕ) → is_atom (r.values i) ≡ true
