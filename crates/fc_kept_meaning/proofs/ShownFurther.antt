-- A module in the place of one that took the place of another shows what that did.
use Rattle.std.proofs.Common.{◌≡◌, Bool, true, false, if◌then◌else◌, Option, Some, refl, ap, subst}
use Rattle.std.proofs.Math.Path.{fun_ext}
use Rattle.fc_model.specs.Headers.{ndecls_in}
use Rattle.fc_model.specs.Kinding.{same_word}
use Rattle.fc_model.specs.Nameless.{NModule}
use Rattle.fc_model.specs.Programs.{right_side}
use Rattle.fc_model.specs.Stepping.{Program}
use Rattle.fc_model.specs.Terms.{Term}
use Rattle.fc_reaching.specs.Numbering.{word_of}
use Rattle.fc_counted.specs.CountingLaws.{SeesSame}
use Rattle.fc_kept_meaning.specs.MeaningKept.{HoldsModule, with_module}
use Rattle.fc_meaning.proofs.SortedErasure.{AreRightsSorted}
use Rattle.fc_kept_meaning.proofs.ChangesKeepMeaning.{with_module_sorted}
use Rattle.fc_kept_meaning.proofs.ModulesKeepMeaning.{ShowsTheSame}

either_again : (b c : Bool) (x y z : Option Term) → c ≡ b → (if b then x else (if c then y else z)) ≡ (if b then x else z)
either_again true c x y z e = refl
either_again false c x y z e = ap (λ d. if d then y else z) e

-- a module in the place of another of its name that was put into a program is it in the program
pub placed_again : (n k : NModule) → word_of n ≡ word_of k → (P : Program) → with_module k (with_module n P) ≡ with_module k P
placed_again n k same P =
    fun_ext (λ x. either_again (same_word x.module (Some (word_of k))) (same_word x.module (Some (word_of n))) (right_side (ndecls_in k) x.text) (right_side (ndecls_in n) x.text) (P x)
    (ap (λ w. same_word x.module (Some w)) same))

-- a program holds the module that was put into it
pub placed_holds : (n : NModule) (P : Program) → HoldsModule (with_module n P) n
placed_holds n P x own = ap (λ b. if b then right_side (ndecls_in n) x.text else P x) own

-- what shows the same as what shows the same does
pub shown_further : (m n k : NModule) → word_of n ≡ word_of k → AreRightsSorted (ndecls_in n) → ShowsTheSame m n → ShowsTheSame n k → ShowsTheSame m k
shown_further m n k same sorted one two P sp holds t st =
    let Q = with_module n P in
    let a = one P sp holds t st in
    let c : SeesSame Q (with_module k P) t = subst (λ R. SeesSame Q R t) (placed_again n k same P) (two Q (with_module_sorted n P sp sorted) (placed_holds n P) t st) in
    λ o. (λ h. (c o).0 ((a o).0 h), λ h. (a o).1 ((c o).1 h))
