-- What is exchanged in a definition: its word and its type stay, and what is taken out is the part that is found there.
use Rattle.std.proofs.Common.{◌≡◌, ℕ, zero, suc, List, [], ◌∷◌, Option, Some, None, refl, sym, ap, ◌∙◌, subst}
use Rattle.std.specs.Prelude.{⊤, slice_get, slice_set}
use Rattle.std.proofs.lemmas.Option.{none-some, same_Some}
use Rattle.fc_syntax.specs.declared.ty.Ref.{Ref}
use Rattle.fc_syntax.specs.GenericTree.{DData, DNew, DFamily, DAxiom, DDef, DWrap}
use Rattle.fc_syntax.specs.Tree.{Word}
use Rattle.fc_model.specs.Nameless.{NDecl, NExpr}
use Rattle.fc_model.specs.Worded.{WDecl, WExpr, bare_decl, bare_expr}
use Rattle.fc_outlines.specs.RightSides.{Righted, righted_def, righted_later, righted_wrap}
use Rattle.fc_places.specs.Places.{Exchanged, around, exchanged}
use Rattle.fc_rows.specs.Surroundings.{Surroundings}
use Rattle.fc_parts.specs.Found.{Found, found}
use Rattle.fc_parts.proofs.Changes.{IsMade, made_at, nowhere, there}
use Rattle.fc_apply.specs.Definitions.{exchanged_in_decl, is_definition, right_side}

-- WORDS

module _ (whole : WExpr → WDecl) (by old : WExpr) (after : WDecl) (p : List ℕ) (e : WExpr) where
  -- what stands around is that of the exchange in the right side
  record IsAround : Type 0 where
    new : WExpr
    put : exchanged by p e ≡ Some (old, new)
    is : after ≡ whole new

  is_around : (o : Option (WExpr × WExpr)) → exchanged by p e ≡ o → around whole o ≡ Some (old, after) → IsAround
  is_around None is h = absurd (none-some _ h)
  is_around (Some (x, y)) is h =
      let same : (x, whole y) ≡ (old, after) = same_Some _ _ h in
      record { new = y; put = is ∙ ap (λ z. Some (z, y)) (ap (λ q. q.0) same); is = sym (ap (λ q. q.1) same) }

pub word_stays : (v : Word) (by old : WExpr) (p : List ℕ) (d after : WDecl) → exchanged_in_decl by (1 ∷ p) d ≡ Some (old, after) → is_definition v (bare_decl after) ≡ is_definition v (bare_decl d)
word_stays v by old p (DDef n t e) after h = let a = is_around (λ f. DDef n t f) by old after p e (exchanged by p e) refl h in ap (λ z. is_definition v (bare_decl z)) a.is
word_stays v by old p (DWrap n t e) after h = let a = is_around (λ f. DWrap n t f) by old after p e (exchanged by p e) refl h in ap (λ z. is_definition v (bare_decl z)) a.is
word_stays v by old p (DData n ps cs) after h = absurd (none-some _ h)
word_stays v by old p (DNew n ps t con) after h = absurd (none-some _ h)
word_stays v by old p (DFamily n ps k) after h = absurd (none-some _ h)
word_stays v by old p (DAxiom n ps t u) after h = absurd (none-some _ h)

-- RIGHT SIDES

-- a definition before others differs in its right side alone
pub right_side_alone : (by old : WExpr) (p : List ℕ) (d after : WDecl) (ds : List NDecl) → exchanged_in_decl by (1 ∷ p) d ≡ Some (old, after) → Righted (λ e f. ⊤) (bare_decl d ∷ ds) (bare_decl after ∷ ds)
right_side_alone by old p (DDef n t e) after ds h =
    let a = is_around (λ f. DDef n t f) by old after p e (exchanged by p e) refl h in
    subst (λ z. Righted (λ e f. ⊤) (bare_decl (DDef n t e) ∷ ds) (bare_decl z ∷ ds)) (sym a.is) (righted_def tt)
right_side_alone by old p (DWrap n t e) after ds h =
    let a = is_around (λ f. DWrap n t f) by old after p e (exchanged by p e) refl h in
    subst (λ z. Righted (λ e f. ⊤) (bare_decl (DWrap n t e) ∷ ds) (bare_decl z ∷ ds)) (sym a.is) (righted_wrap tt)
right_side_alone by old p (DData n ps cs) after ds h = absurd (none-some _ h)
right_side_alone by old p (DNew n ps t con) after ds h = absurd (none-some _ h)
right_side_alone by old p (DFamily n ps k) after ds h = absurd (none-some _ h)
right_side_alone by old p (DAxiom n ps t u) after ds h = absurd (none-some _ h)

-- and so do declarations of which it is one
pub righted_at : {R : NExpr → NExpr → Type 0} (i : ℕ) (c d : NDecl) (ds : List NDecl) → slice_get ds i ≡ Some c → ((es : List NDecl) → Righted R (c ∷ es) (d ∷ es)) → Righted R ds (slice_set ds i d)
righted_at i c d [] at alone = absurd (none-some _ at)
righted_at {R = R} zero c d (x ∷ ds) at alone = subst (λ z. Righted R (z ∷ ds) (d ∷ ds)) (sym (same_Some _ _ at)) (alone ds)
righted_at (suc i) c d (x ∷ ds) at alone = righted_later (righted_at i c d ds at alone)

-- PARTS

module _ (row : Surroundings → NExpr → Option NExpr) where
  taken_out : {by : WExpr} {f : Option Found} {ex : Exchanged ℕ Ref Word WExpr} {ch : Option NExpr} {old new : WExpr} {t : Surroundings} {g : NExpr}
      → IsMade row by bare_expr f ex ch → f ≡ Some (t, g) → ex ≡ Some (old, new) → bare_expr old ≡ g
  taken_out (nowhere none) is put = absurd (none-some _ is)
  taken_out (there s was made none some) is put =
      let first = ap (λ q. q.1) (same_Some _ _ is) in
      let second = ap (λ q. q.0) (same_Some _ _ put) in
      ap bare_expr (sym second) ∙ first

  part_of_right : (s t : Surroundings) (p : List ℕ) (e by old new : WExpr) (g : NExpr) → exchanged by p e ≡ Some (old, new) → found s p (bare_expr e) ≡ Some (t, g) → bare_expr old ≡ g
  part_of_right s t p e by old new g put is = taken_out (made_at row by s p e) is put

  pub part_is : (s t : Surroundings) (p : List ℕ) (d after : WDecl) (by old : WExpr) (e g : NExpr) → exchanged_in_decl by (1 ∷ p) d ≡ Some (old, after) → right_side (bare_decl d) ≡ Some e
      → found s p e ≡ Some (t, g) → bare_expr old ≡ g
  part_is s t p (DDef n u e) after by old x g h right is =
      let a = is_around (λ f. DDef n u f) by old after p e (exchanged by p e) refl h in
      part_of_right s t p e by old a.new g a.put (ap (found s p) (same_Some _ _ right) ∙ is)
  part_is s t p (DWrap n u e) after by old x g h right is =
      let a = is_around (λ f. DWrap n u f) by old after p e (exchanged by p e) refl h in
      part_of_right s t p e by old a.new g a.put (ap (found s p) (same_Some _ _ right) ∙ is)
  part_is s t p (DData n ps cs) after by old x g h right is = absurd (none-some _ h)
  part_is s t p (DNew n ps u con) after by old x g h right is = absurd (none-some _ h)
  part_is s t p (DFamily n ps k) after by old x g h right is = absurd (none-some _ h)
  part_is s t p (DAxiom n ps u v) after by old x g h right is = absurd (none-some _ h)
