-- The rows over the parts that code finds.
use Rattle.std.proofs.Common.{◌≡◌, ◌++◌, ◌+◌, ◌<◌, ℕ, zero, suc, Bool, true, false, if◌then◌else◌, List, [], ◌∷◌, Option, Some, None, refl, sym, ap, ◌∙◌, take, drop, length, get_or, append_assoc, arith}
use Rattle.std.proofs.lemmas.List.{take_more}
use Rattle.std.specs.List.{list_any}
use Rattle.std.specs.Prelude.{slice_get}
use Rattle.fc_syntax.specs.declared.expr.Alt as RustAlt
use Rattle.fc_syntax.specs.declared.expr.Head.{Head}
use Rattle.fc_syntax.specs.declared.ty.Ref.{Ref}
use Rattle.fc_syntax.specs.View.{alt_of, alts_of}
use Rattle.fc_syntax.proofs.Snoc.{alts_more, alts_snoc}
use Rattle.fc_model.specs.Nameless.{NTy, NExpr, NCase, NAlts, MoreNAlts}
use Rattle.fc_model.specs.NamelessView.{nalt_of, nalts_of}
use Rattle.fc_rows.specs.Changing.{made}
use Rattle.fc_rows.specs.Shrinking.{alt_dead, heads_excluded, known, same_head, without_alternative}
use Rattle.fc_rows.specs.Surroundings.{Known, Surroundings}
use Rattle.fc_shrink_cases.specs.Cases.{scrutinee_of, without}

-- ALTERNATIVES THAT ARE NEVER TAKEN

abbrev pub gone : Bool → NAlts → Option NAlts
gone b alts = if b then Some alts else None

made_gone : {X : Type 0} (a : NAlts → X) (b : Bool) (alts : NAlts) → made a (gone b alts) ≡ (if b then Some (a alts) else None)
made_gone a true alts = refl
made_gone a false alts = refl

-- an alternative goes where its head is one of the heads
pub one_gone : (hs : List Head) (i : ℕ) (alts : List (RustAlt.Alt ℕ Ref)) (a : RustAlt.Alt ℕ Ref) → slice_get alts i ≡ Some a → without_alternative hs i (nalts_of alts) ≡ gone (list_any (same_head a.head) hs) (without i (nalts_of alts))
one_gone hs i [] a is = cc
one_gone hs zero (c ∷ alts) a is =
    let same : c ≡ a = cc in
    ap (λ x. gone (list_any (same_head x.head) hs) (nalts_of alts)) same
one_gone hs (suc i) (c ∷ alts) a is =
    ap (made (MoreNAlts (nalt_of c))) (one_gone hs i alts a is) ∙ made_gone (MoreNAlts (nalt_of c)) (list_any (same_head a.head) hs) (without i (nalts_of alts))

-- none goes where no alternative is of that number
pub none_gone : (hs : List Head) (i : ℕ) (alts : List (RustAlt.Alt ℕ Ref)) → slice_get alts i ≡ None → without_alternative hs i (nalts_of alts) ≡ None
none_gone hs i [] is = refl
none_gone hs zero (c ∷ alts) is = cc
none_gone hs (suc i) (c ∷ alts) is = ap (made (MoreNAlts (nalt_of c))) (none_gone hs i alts is)

-- what the row makes of a case, by what is known of what it looks at
row_of_case : (e s : NExpr) (t u : NTy) (alts : NAlts) (i : ℕ) (around : Surroundings) (k : Known) → e ≡ NCase s t u alts → k ≡ known around (scrutinee_of e)
    → alt_dead i around e ≡ made (NCase s t u) (without_alternative (heads_excluded k) i alts)
row_of_case e s t u alts i around k is known_is =
    ap (alt_dead i around) is
    ∙ ap (λ l. made (NCase s t u) (without_alternative (heads_excluded l) i alts)) (sym (known_is ∙ ap (λ x. known around (scrutinee_of x)) is))

-- where no alternative is of that number
pub alt_dead_none : (e s : NExpr) (t u : NTy) (alts : List (RustAlt.Alt ℕ Ref)) (i : ℕ) (around : Surroundings) (k : Known) → e ≡ NCase s t u (nalts_of alts)
    → k ≡ known around (scrutinee_of e) → slice_get alts i ≡ None → alt_dead i around e ≡ None
alt_dead_none e s t u alts i around k is known_is none =
    row_of_case e s t u (nalts_of alts) i around k is known_is ∙ ap (made (NCase s t u)) (none_gone (heads_excluded k) i alts none)

-- where one is
pub alt_dead_is : (e s : NExpr) (t u : NTy) (alts : List (RustAlt.Alt ℕ Ref)) (i : ℕ) (around : Surroundings) (k : Known) (a : RustAlt.Alt ℕ Ref) (b : Bool)
    → e ≡ NCase s t u (nalts_of alts) → k ≡ known around (scrutinee_of e) → slice_get alts i ≡ Some a → list_any (same_head a.head) (heads_excluded k) ≡ b
    → alt_dead i around e ≡ (if b then Some (NCase s t u (without i (nalts_of alts))) else None)
alt_dead_is e s t u alts i around k a b is known_is one excluded =
    row_of_case e s t u (nalts_of alts) i around k is known_is ∙ ap (made (NCase s t u)) (one_gone (heads_excluded k) i alts a one)
    ∙ made_gone (NCase s t u) (list_any (same_head a.head) (heads_excluded k)) (without i (nalts_of alts))
    ∙ ap (λ c. if c then Some (NCase s t u (without i (nalts_of alts))) else None) excluded

-- ALTERNATIVES BUT FOR ONE

-- a copy of the next item goes to the end, behind what stands in front
pub step_behind : (front items all more : List (RustAlt.Alt ℕ Ref)) (i : ℕ) (x y : RustAlt.Alt ℕ Ref) → more ≡ all ++ y ∷ [] → alt_of y ≡ alt_of x → i < length items
    → x ≡ get_or items i x → alts_of all ≡ alts_of (front ++ take i items) → alts_of more ≡ alts_of (front ++ take (i + 1) items)
step_behind front items all more i x y pushed same within is so_far =
    ap alts_of pushed ∙ alts_more all y ∙ (λ j. alts_snoc (so_far j) (same j)) ∙ sym (alts_more (front ++ take i items) x)
    ∙ ap alts_of (append_assoc front (take i items) (x ∷ []))
    ∙ ap (λ z. alts_of (front ++ (take i items ++ z ∷ []))) is ∙ sym (ap (λ z. alts_of (front ++ z)) (take_more items i x within))

-- the others are those before it and those behind it
pub without_is : (alts : List (RustAlt.Alt ℕ Ref)) (n : ℕ) → n < length alts → without n (nalts_of alts) ≡ nalts_of (take n alts ++ drop (n + 1) alts)
without_is [] n within = absurd (omega arith)
without_is (a ∷ alts) zero within = refl
without_is (a ∷ alts) (suc n) within =
    let next : suc (n + 1) ≡ suc n + 1 = omega arith in
    ap (MoreNAlts (nalt_of a)) (without_is alts n (omega arith)) ∙ ap (λ k. nalts_of (a ∷ (take n alts ++ drop k (a ∷ alts)))) next
