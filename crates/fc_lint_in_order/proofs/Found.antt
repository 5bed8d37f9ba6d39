-- Each name of what resolves is of the module itself, or of one that it imports, and then one that this one has for others.
use Rattle.std.proofs.Common.{◌≡◌, Bool, true, List, Option, Some, None, Ok, refl, subst}
use Rattle.fc_syntax.specs.declared.ty.Name.{Name}
use Rattle.fc_syntax.specs.declared.fault.FaultKind.TheVariants.{NotExported, Unbound}
use Rattle.fc_syntax.specs.Tree.{Word, Decl}
use Rattle.fc_model.specs.Nameless.{NDecl}
use Rattle.fc_model.specs.Resolution.{Top, WordSet, Words, declared_name}
use Rattle.fc_model.specs.ResolutionRules.{ResolvesDecls}
use Rattle.fc_model.proofs.Parts.{need_inv, ok_ok}
use Rattle.fc_used_words.specs.Scoped.{HoldsDecls, Saying}
use Rattle.fc_resolved_names.proofs.NamesHold.{IsSaidOfOwn, names_hold}
use Rattle.fc_resolved_names.proofs.Obeying.{AreSaid, Goes, goes_everywhere}
use Rattle.fc_views.specs.Views.{IsNameInView, View}
use Rattle.fc_lint_in_order.proofs.Mentioned.{mentioned}

-- the module and its imports are in view, and the definitions of both that may be named may be used
pub record Serves (top : Top) (view : View) (use_of : Name → Bool) : Type 0 where
  pub own_seen : view top.own ≡ true
  pub imports_seen : (v : Word) → top.imports v ≡ true → view v ≡ true
  pub own_used : (w : Word) → use_of (record { «module» = Some top.own; text = w }) ≡ true
  pub imports_used : (v w : Word) → top.imports v ≡ true → top.offers.terms v w ≡ true → use_of (record { «module» = Some v; text = w }) ≡ true

module _ (top : Top) (view : View) (use_of : Name → Bool) (serves : Serves top view use_of) where
  abbrev P : Saying
  P = mentioned view use_of

  name_seen : (words : WordSet) (offered : Word → WordSet) (o : Option Word) (w : Word) (m : Name) → declared_name top words offered o w ≡ Ok m → IsNameInView view m
  name_seen words offered None w m h = let p = need_inv (words w) Unbound _ m h in subst (IsNameInView view) (ok_ok p.1) (rw serves.own_seen refl)
  name_seen words offered (Some v) w m h =
      let p = need_inv (top.imports v) Unbound _ m h in
      let q = need_inv (offered v w) NotExported _ m p.1 in
      subst (IsNameInView view) (ok_ok q.1) (rw (serves.imports_seen v p.0) refl)

  name_used : (o : Option Word) (w : Word) (m : Name) → declared_name top top.terms top.offers.terms o w ≡ Ok m → use_of m ≡ true
  name_used None w m h = let p = need_inv (top.terms w) Unbound _ m h in subst (λ n. use_of n ≡ true) (ok_ok p.1) (serves.own_used w)
  name_used (Some v) w m h =
      let p = need_inv (top.imports v) Unbound _ m h in
      let q = need_inv (top.offers.terms v w) NotExported _ m p.1 in
      subst (λ n. use_of n ≡ true) (ok_ok q.1) (serves.imports_used v w p.0 q.0)

  goes : Goes P
  goes = goes_everywhere P (λ k i. tt) (λ k i. tt) (λ k i. tt) (λ k i. tt)

  said : AreSaid top P
  said = record {
    type_name = λ n m h. name_seen top.types top.offers.types n.module n.text m h;
    axiom_name = λ n m h. name_seen top.coercions top.offers.coercions n.module n.text m h;
    constructor = λ n m h. name_seen top.terms top.offers.terms n.module n.text m h;
    imported = λ v w m h. (name_seen top.terms top.offers.terms (Some v) w m h, name_used (Some v) w m h);
  }

  own : IsSaidOfOwn top P
  own w m h = (name_seen top.terms top.offers.terms None w m h, name_used None w m h)

  pub names_serve : {ws : Words} {ds : List Decl} {cs : List NDecl} → ResolvesDecls top ws ds cs → HoldsDecls P cs
  names_serve rules = names_hold top P goes said own rules
