-- Definitions that nothing reaches may be taken away.
use Rattle.std.proofs.Common.{◌≡◌, Bool, true, false, List, [], ◌∷◌, if◌then◌else◌, bytes_eq, Option, Some, refl, sym, ap, ◌∙◌}
use Rattle.fc_syntax.specs.Tree.{Word}
use Rattle.fc_syntax.specs.declared.ty.Name.{Name}
use Rattle.fc_model.specs.Erasure.{erased, no_scope}
use Rattle.fc_model.specs.Headers.{ndecls_in}
use Rattle.fc_model.specs.Kinding.{same_word}
use Rattle.fc_model.specs.Nameless.{NDecl, NData, NNew, NFamily, NAxiom, NDef, NWrap, NModule, NModuleOf}
use Rattle.fc_model.specs.Programs.{Mentions, right_side}
use Rattle.fc_model.specs.Stepping.{Program}
use Rattle.fc_model.specs.Terms.{Term}
use Rattle.fc_model.proofs.Sameness.{bytes_eq_eq}
use Rattle.fc_meaning.proofs.Named.{sees_other}
use Rattle.fc_meaning.proofs.Optional.{false_true}
use Rattle.fc_meaning.proofs.WrittenMeans.{mentions_more}
use Rattle.fc_counted.specs.CountingLaws.{SeesSame}
use Rattle.fc_rows.specs.Rewriting.{without_definitions}
use Rattle.fc_reaching.specs.Numbering.{word_of}
use Rattle.fc_kept_meaning.specs.MeaningKept.{with_module, HoldsModule, MayBeAsked, OthersKeepOut, KeepsMeaning, IsDead, DeadTaken, takes_dead}
use Rattle.fc_rows.specs.Dropping.{is_kept}

-- a kept definition is found as before
kept_step : (keep : Word → Bool) (v w : Word) (x : Term) (d : NDecl) (rest more : Option Term) (b : Bool) → keep v ≡ b → keep w ≡ true → rest ≡ more → (t : Bool) → bytes_eq v w ≡ t
    → (if t then Some x else rest) ≡ (if b then (if t then Some x else more) else more)
kept_step keep v w x d rest more true kv kw e true q = refl
kept_step keep v w x d rest more true kv kw e false q = e
kept_step keep v w x d rest more false kv kw e true q = absurd (false_true (sym kv ∙ ap keep (bytes_eq_eq v w q) ∙ kw))
kept_step keep v w x d rest more false kv kw e false q = e

right_if : (b : Bool) (d : NDecl) (ds : List NDecl) (w : Word) → right_side (if b then d ∷ ds else ds) w ≡ (if b then right_side (d ∷ ds) w else right_side ds w)
right_if true d ds w = refl
right_if false d ds w = refl

kept_found : (keep : Word → Bool) (ds : List NDecl) (w : Word) → keep w ≡ true → right_side ds w ≡ right_side (without_definitions keep ds) w
kept_found keep [] w k = refl
kept_found keep (NData v ps cs ∷ ds) w k = kept_found keep ds w k
kept_found keep (NNew v ps t con ∷ ds) w k = kept_found keep ds w k
kept_found keep (NFamily v ps j ∷ ds) w k = kept_found keep ds w k
kept_found keep (NAxiom v ps t u ∷ ds) w k = kept_found keep ds w k
kept_found keep (NDef v t e ∷ ds) w k =
    kept_step keep v w (erased no_scope e) (NDef v t e) (right_side ds w) (right_side (without_definitions keep ds) w) (keep v) refl k (kept_found keep ds w k) (bytes_eq v w) refl
    ∙ sym (right_if (keep v) (NDef v t e) (without_definitions keep ds) w)
kept_found keep (NWrap v t e ∷ ds) w k =
    kept_step keep v w (erased no_scope e) (NWrap v t e) (right_side ds w) (right_side (without_definitions keep ds) w) (keep v) refl k (kept_found keep ds w k) (bytes_eq v w) refl
    ∙ sym (right_if (keep v) (NWrap v t e) (without_definitions keep ds) w)

module _ (m n : NModule) (keep : Word → Bool) (dead : IsDead m keep) (same : word_of m ≡ word_of n) (goes : ndecls_in n ≡ without_definitions keep (ndecls_in m)) (P : Program)
    (holds : HoldsModule P m) (out : OthersKeepOut P m) where
  -- what may be asked for stays
  asked_is_kept : (x : Name) → MayBeAsked m x → is_kept keep (word_of m) x ≡ true
  asked_is_kept x w = go (same_word x.module (Some (word_of m))) refl
    where
      go : (b : Bool) → same_word x.module (Some (word_of m)) ≡ b → (if b then keep x.text else true) ≡ true
      go true e = dead.offered x.text (w e)
      go false e = refl

  kept_is_same : (x : Name) → is_kept keep (word_of m) x ≡ true → P x ≡ with_module n P x
  kept_is_same x w = go (same_word x.module (Some (word_of m))) refl w
    where
      go : (b : Bool) → same_word x.module (Some (word_of m)) ≡ b → (if b then keep x.text else true) ≡ true → P x ≡ with_module n P x
      go true e k =
          let own : same_word x.module (Some (word_of n)) ≡ true = ap (λ v. same_word x.module (Some v)) (sym same) ∙ e in
          holds x e ∙ kept_found keep (ndecls_in m) x.text k ∙ ap (λ ds. right_side ds x.text) (sym goes) ∙ sym (ap (λ b. if b then right_side (ndecls_in n) x.text else P x) own)
      go false e k =
          let other : same_word x.module (Some (word_of n)) ≡ false = ap (λ v. same_word x.module (Some v)) (sym same) ∙ e in
          sym (ap (λ b. if b then right_side (ndecls_in n) x.text else P x) other)

  kept_is_closed : (x : Name) → is_kept keep (word_of m) x ≡ true → (t : Term) → P x ≡ Some t → Mentions (λ y. is_kept keep (word_of m) y ≡ true) t
  kept_is_closed x w t d = go (same_word x.module (Some (word_of m))) refl w
    where
      go : (b : Bool) → same_word x.module (Some (word_of m)) ≡ b → (if b then keep x.text else true) ≡ true → Mentions (λ y. is_kept keep (word_of m) y ≡ true) t
      go true e k = dead.closed x.text t k (sym (holds x e) ∙ d)
      go false e k = mentions_more (MayBeAsked m) (λ y. is_kept keep (word_of m) y ≡ true) asked_is_kept t (out x t (λ own. false_true (sym e ∙ own)) d)

  pub dead_shows : (t : Term) → Mentions (MayBeAsked m) t → SeesSame P (with_module n P) t
  dead_shows t w =
      sees_other (λ x. is_kept keep (word_of m) x ≡ true) P (with_module n P) (record { same = kept_is_same; closed = kept_is_closed }) t
      (mentions_more (MayBeAsked m) (λ y. is_kept keep (word_of m) y ≡ true) asked_is_kept t w)

pub dead_keeps_meaning : KeepsMeaning DeadTaken
dead_keeps_meaning xs _ _ (takes_dead {m = m} {imports = imports} {exports = exports} {hidden = hidden} {ds = ds} keep dead) lm ln wm wn P sp tells holds out t st w =
    dead_shows (NModuleOf m imports exports hidden ds) (NModuleOf m imports exports hidden (without_definitions keep ds)) keep dead refl refl P holds out t w
