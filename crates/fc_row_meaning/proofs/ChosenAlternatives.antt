-- The alternative that a row finds is the one that a case takes.
use Rattle.std.proofs.Common.{◌≡◌, ℤ, Bool, true, false, ◌&&◌, int_le, if◌then◌else◌, cond, List, [], Option, Some, None, refl, ap, ◌∙◌, subst, arith}
use Rattle.std.proofs.lemmas.Bool.Decides.{Decides-int_eq}
use Rattle.std.specs.Ordering.{int_eq}
use Rattle.fc_syntax.specs.declared.expr.Head.{Head}
use Rattle.fc_syntax.specs.declared.expr.Head.TheVariants as head
use Rattle.fc_syntax.specs.declared.ty.Name.{Name}
use Rattle.fc_model.specs.Calling.{first_of}
use Rattle.fc_model.specs.Erasure.{Scope, below_all, binder_sorts, erased, erased_alts}
use Rattle.fc_model.specs.Kinding.{same_name}
use Rattle.fc_model.specs.Nameless.{NBinder, NBranch, NAlts, NoNAlts, MoreNAlts, NExpr}
use Rattle.fc_model.specs.Stepping.{Bare, ConKey, Fielded, Found, LitKey, choose, default_of, found, matches, own}
use Rattle.fc_model.specs.Terms.{OfCon}
use Rattle.fc_rows.specs.Shrinking.{alternative_of, same_head}
use Rattle.fc_row_types.proofs.Made.{none_some, some_some}
use Rattle.fc_meaning.proofs.WrittenExpressions.{AreAltsWritten, IsWritten}

-- THE DEFAULT

pub default_is : (o : Scope) (alts : NAlts) (bs : List NBinder) (b : NExpr) → alternative_of head.Default alts ≡ Some (bs, b) → default_of (erased_alts o alts) ≡ Bare (erased (below_all bs o) b)
unfolding default_of
default_is o NoNAlts bs b h = none_some h
default_is o (MoreNAlts (NBranch head.Default cs d) rest) bs b h =
    let same : (cs, d) ≡ (bs, b) = some_some h in ap (λ x. Bare (erased (below_all x.0 o) x.1)) same
default_is o (MoreNAlts (NBranch (head.Lit z) cs d) rest) bs b h = default_is o rest bs b h
default_is o (MoreNAlts (NBranch (head.Con m) cs d) rest) bs b h = default_is o rest bs b h

-- CONSTRUCTORS

-- what is found for a constructor
abbrev constructor_found : Scope → Option (List NBinder × NExpr) → Found → Found
constructor_found o (Some x) d = Fielded (binder_sorts x.0) (erased (below_all x.0 o) x.1)
constructor_found o None d = d

-- the alternative of a constructor, else what is behind
constructor_own : (o : Scope) (n : Name) (alts : NAlts) (d : Found) → own (ConKey n) (erased_alts o alts) d ≡ constructor_found o (alternative_of (head.Con n) alts) d
unfolding own matches found
constructor_own o n NoNAlts d = refl
constructor_own o n (MoreNAlts (NBranch head.Default bs b) rest) d = constructor_own o n rest d
constructor_own o n (MoreNAlts (NBranch (head.Lit z) bs b) rest) d = constructor_own o n rest d
constructor_own o n (MoreNAlts (NBranch (head.Con m) bs b) rest) d = tested (same_name n m) (constructor_own o n rest d)
  where
    tested : (x : Bool) → own (ConKey n) (erased_alts o rest) d ≡ constructor_found o (alternative_of (head.Con n) rest) d
        → cond x (found (OfCon m (binder_sorts bs)) (erased (below_all bs o) b)) (own (ConKey n) (erased_alts o rest) d) ≡ constructor_found o (if x then Some (bs, b) else alternative_of (head.Con n) rest) d
    tested true later = refl
    tested false later = later

-- its own, where it has one
pub constructor_chosen : (o : Scope) (n : Name) (alts : NAlts) (bs : List NBinder) (b : NExpr) → alternative_of (head.Con n) alts ≡ Some (bs, b)
    → choose (ConKey n) (erased_alts o alts) ≡ Fielded (binder_sorts bs) (erased (below_all bs o) b)
unfolding choose
constructor_chosen o n alts bs b h =
    constructor_own o n alts (default_of (erased_alts o alts)) ∙ ap (λ a. constructor_found o a (default_of (erased_alts o alts))) h

-- the default, where it has none
pub other_chosen : (o : Scope) (n : Name) (alts : NAlts) (b : NExpr) → alternative_of (head.Con n) alts ≡ None → alternative_of head.Default alts ≡ Some ([], b)
    → choose (ConKey n) (erased_alts o alts) ≡ Bare (erased o b)
unfolding choose
other_chosen o n alts b h k =
    constructor_own o n alts (default_of (erased_alts o alts)) ∙ ap (λ a. constructor_found o a (default_of (erased_alts o alts))) h ∙ default_is o alts [] b k

-- LITERALS

-- both tests of two numbers
pub same_number : (a b : ℤ) → (int_le a b && int_le b a) ≡ int_eq a b
same_number a b = grind (arith, Decides-int_eq a b)

-- what is found for a literal
abbrev literal_found : Scope → Option (List NBinder × NExpr) → Found → Found
literal_found o (Some x) d = Bare (erased (below_all x.0 o) x.1)
literal_found o None d = d

-- the alternative of a literal, else what is behind
literal_own : (o : Scope) (z : ℤ) (alts : NAlts) (d : Found) → own (LitKey z) (erased_alts o alts) d ≡ literal_found o (alternative_of (head.Lit z) alts) d
unfolding own matches found
literal_own o z NoNAlts d = refl
literal_own o z (MoreNAlts (NBranch head.Default bs b) rest) d = literal_own o z rest d
literal_own o z (MoreNAlts (NBranch (head.Con m) bs b) rest) d = literal_own o z rest d
literal_own o z (MoreNAlts (NBranch (head.Lit y) bs b) rest) d = tested (int_le z y && int_le y z) (int_eq z y) (same_number z y) (literal_own o z rest d)
  where
    tested : (p q : Bool) → p ≡ q → own (LitKey z) (erased_alts o rest) d ≡ literal_found o (alternative_of (head.Lit z) rest) d
        → cond q (Bare (erased (below_all bs o) b)) (own (LitKey z) (erased_alts o rest) d) ≡ literal_found o (if p then Some (bs, b) else alternative_of (head.Lit z) rest) d
    tested true true e later = refl
    tested false false e later = later
    tested true false e later = absurd cc
    tested false true e later = absurd cc

-- the alternative that is taken
pub literal_chosen : (o : Scope) (z : ℤ) (alts : NAlts) (b : NExpr) → (own_one def : Option (List NBinder × NExpr)) → alternative_of (head.Lit z) alts ≡ own_one → alternative_of head.Default alts ≡ def
    → first_of own_one def ≡ Some ([], b) → choose (LitKey z) (erased_alts o alts) ≡ Bare (erased o b)
unfolding choose
literal_chosen o z alts b (Some x) def e k h =
    let same : x ≡ ([], b) = some_some h in
    literal_own o z alts (default_of (erased_alts o alts)) ∙ ap (λ a. literal_found o a (default_of (erased_alts o alts))) e ∙ ap (λ y. Bare (erased (below_all y.0 o) y.1)) same
literal_chosen o z alts b None def e k h =
    literal_own o z alts (default_of (erased_alts o alts)) ∙ ap (λ a. literal_found o a (default_of (erased_alts o alts))) e ∙ default_is o alts [] b (k ∙ h)

-- WHAT IS WRITTEN

-- the body of an alternative that is found
pub found_written : (h : Head) (alts : NAlts) (bs : List NBinder) (b : NExpr) → AreAltsWritten alts → alternative_of h alts ≡ Some (bs, b) → IsWritten b
found_written h NoNAlts bs b w e = none_some e
found_written h (MoreNAlts (NBranch k cs d) rest) bs b w e = tested (same_head h k) e (λ q. found_written h rest bs b w.2 q)
  where
    tested : (x : Bool) → (if x then Some (cs, d) else alternative_of h rest) ≡ Some (bs, b) → (alternative_of h rest ≡ Some (bs, b) → IsWritten b) → IsWritten b
    tested true q later = let same : (cs, d) ≡ (bs, b) = some_some q in subst (λ x. IsWritten x.1) same w.1
    tested false q later = later q
