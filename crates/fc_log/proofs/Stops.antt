-- Where reading stops behind what was read.
use Rattle.std.proofs.Common.{◌≡◌, true, List, Option, refl, sym, subst, Result, Ok, Err}
use Rattle.std.specs.Prelude.{IfErr}
use Rattle.std.specs.Result.{IsErrAnd}
use Rattle.fc_syntax.specs.Tree.{Word}
use Rattle.fc_syntax.specs.declared.fault.Place.{Place}
use Rattle.fc_log.specs.declared.log.Entry.{Entry}
use Rattle.fc_log.specs.declared.log.Row.{Row}
use Rattle.fc_log.specs.Grammar.{Outcome, BehindPath, is_fold}
use Rattle.fc_log.specs.Reading.{Tells, behind_place}
use Rattle.fc_log.specs.declared.tokens.Stop.{Stop}

pub err_is : {A E : Type 0} (P : E → Type 0) (r : Result A E) (e : E) → IsErrAnd r (λ x. x ≡ e) → P e → IfErr r P
err_is P (Ok x) e k p = absurd k
err_is P (Err x) e k p = subst P (sym k) p

-- it stops there too, where the same is read from both
pub stops_on : {o p : Outcome} (e : Stop) → o ≡ p → Tells p e → Tells o e
stops_on e q h = subst (λ x. Tells x e) (sym q) h

-- behind the place of a fold its answer stands next
pub behind_fold : (m : Word) (es : List Entry) (r : Row) (d : Option Word) (p : Place) → is_fold r ≡ true → behind_place m es r d p ≡ BehindPath m es d p
unfolding behind_place
behind_fold m es r d p h = rw h refl
