-- The numbers of modules, while the table of them grows.
use Rattle.std.proofs.Common.{◌≡◌, ℕ, ◌+◌, Bool, true, false, not, ◌||◌, bytes_eq, if◌then◌else◌, List, [], ◌∷◌, Option, Some, None, is_some, refl, sym, ap, ◌∙◌}
use Rattle.fc_syntax.specs.Tree.{Word, Module}
use Rattle.fc_syntax.specs.declared.fault.FaultKind.TheVariants as kind
use Rattle.fc_model.specs.Calling.{first_of}
use Rattle.fc_model.specs.Headers.{name_of}
use Rattle.fc_model.proofs.Sameness.{bytes_eq_eq, false_true}
use Rattle.fc_plan.specs.Modules.{names_of}
use Rattle.fc_plan.specs.Numbering.{AreNumbers, number_among}
use Rattle.fc_model.specs.Planning.{first_repeated, is_among, of_kind, plan_fault}
use Rattle.fc_plan.proofs.Planned.{fault_repeated}

-- The modules before the rest have their numbers, of which the next is k, and no two of them one name.
pub record IsNumbering (number : Word → Option ℕ) (k : ℕ) (ms rest : List Module) : Type 0 where
  pub before : List Word
  pub seen : (w : Word) → is_among before w ≡ is_some (number w)
  pub same : first_repeated before (names_of rest) ≡ first_repeated [] (names_of ms)
  pub whole : (w : Word) → first_of (number w) (number_among k (names_of rest) w) ≡ number_among 0 (names_of ms) w

pub numbering_none : (number : Word → Option ℕ) (ms : List Module) → ((w : Word) → number w ≡ None) → IsNumbering number 0 ms ms
numbering_none number ms h = record {
  before = [];
  seen = λ w. sym (ap is_some (h w));
  same = refl;
  whole = λ w. ap (λ o. first_of o (number_among 0 (names_of ms) w)) (h w);
}

one_more : (b x : Bool) (o : Option ℕ) (k : ℕ) → x ≡ is_some o → (b || x) ≡ is_some (if b then Some k else o)
one_more true x o k h = refl
one_more false x o k h = h

put_or_behind : (b : Bool) (o rest : Option ℕ) (k : ℕ) → (b ≡ true → o ≡ None) → first_of (if b then Some k else o) rest ≡ first_of o (if b then Some k else rest)
put_or_behind true o rest k h = sym (ap (λ x. first_of x (Some k)) (h refl))
put_or_behind false o rest k h = refl

no_number : (o : Option ℕ) → is_some o ≡ false → o ≡ None
no_number None h = refl
no_number (Some k) h = cc

-- a name is put in where it was not there
pub was_free : (added there : Bool) → added ≡ true → added ≡ not there → there ≡ false
was_free added true h is = false_true (sym is ∙ h)
was_free added false h is = refl

pub was_there : (added there : Bool) → added ≡ false → added ≡ not there → there ≡ true
was_there added true h is = refl
was_there added false h is = false_true (sym h ∙ is)

pub numbering_more : (number number' : Word → Option ℕ) (k : ℕ) (ms rest : List Module) (m : Module) → IsNumbering number k ms (m ∷ rest)
    → is_some (number (name_of m)) ≡ false → ((w : Word) → number' w ≡ (if bytes_eq (name_of m) w then Some k else number w)) → IsNumbering number' (k + 1) ms rest
numbering_more number number' k ms rest m h free put = record {
  before = name_of m ∷ h.before;
  seen = λ w. one_more (bytes_eq (name_of m) w) (is_among h.before w) (number w) k (h.seen w) ∙ sym (ap is_some (put w));
  same =
      ap (λ b. if b then Some (name_of m) else first_repeated (name_of m ∷ h.before) (names_of rest)) (sym (h.seen (name_of m) ∙ free)) ∙ h.same;
  whole = λ w.
      let behind = number_among (k + 1) (names_of rest) w in
      ap (λ o. first_of o behind) (put w)
      ∙ put_or_behind (bytes_eq (name_of m) w) (number w) behind k
      (λ e. ap number (sym (bytes_eq_eq (name_of m) w e)) ∙ no_number (number (name_of m)) free)
      ∙ h.whole w;
}

pub numbering_repeated : (number : Word → Option ℕ) (k : ℕ) (ms rest : List Module) (m : Module) → IsNumbering number k ms (m ∷ rest)
    → is_some (number (name_of m)) ≡ true → plan_fault ms ≡ Some (of_kind kind.DuplicateModule (name_of m))
numbering_repeated number k ms rest m h there =
    fault_repeated ms (name_of m)
    (sym h.same ∙ ap (λ b. if b then Some (name_of m) else first_repeated (name_of m ∷ h.before) (names_of rest)) (h.seen (name_of m) ∙ there))

or_none : (o : Option ℕ) → first_of o None ≡ o
or_none (Some k) = refl
or_none None = refl

pub numbering_all : (number : Word → Option ℕ) (k : ℕ) (ms : List Module) → IsNumbering number k ms [] → AreNumbers ms number × (first_repeated [] (names_of ms) ≡ None)
numbering_all number k ms h = (λ w. sym (or_none (number w)) ∙ h.whole w, sym h.same)
