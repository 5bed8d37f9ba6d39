-- Of what resolves among modules, each name of another module is one that this one has for others.
use Rattle.std.proofs.Common.{◌≡◌, false, bytes_eq, Option, Some, None, Ok, subst}
use Rattle.fc_syntax.specs.declared.ty.Name.{Name}
use Rattle.fc_syntax.specs.declared.fault.FaultKind.TheVariants.{NotExported, Unbound}
use Rattle.fc_syntax.specs.Tree.{Word}
use Rattle.fc_model.specs.Resolution.{Top, WordSet, declared_name}
use Rattle.fc_model.proofs.Parts.{need_inv, ok_ok}
use Rattle.fc_model.proofs.Sameness.{bytes_eq_refl}
use Rattle.fc_used_words.specs.Scoped.{Saying}
use Rattle.fc_resolved_names.proofs.NamesHold.{IsSaidOfOwn}
use Rattle.fc_resolved_names.proofs.Obeying.{AreSaid, Goes, goes_everywhere}
use Rattle.fc_set_rules.specs.FormsDecide.{IsOffered, offered_names}

not_itself : (w : Word) → bytes_eq w w ≡ false → ⊥
not_itself w e = let is = bytes_eq_refl w in cc

name_offered : (top : Top) (words : WordSet) (offered : Word → WordSet) (o : Option Word) (w : Word) (m : Name) → declared_name top words offered o w ≡ Ok m → IsOffered top.own offered m
name_offered top words offered None w m h =
    let p = need_inv (words w) Unbound _ m h in
    subst (IsOffered top.own offered) (ok_ok p.1) (λ other. absurd (not_itself top.own other))
name_offered top words offered (Some v) w m h =
    let p = need_inv (top.imports v) Unbound _ m h in
    let q = need_inv (offered v w) NotExported _ m p.1 in
    subst (IsOffered top.own offered) (ok_ok q.1) (λ other. q.0)

module _ (top : Top) where
  abbrev Offered : Saying
  Offered = offered_names top.own top.offers

  pub offered_goes : Goes Offered
  offered_goes = goes_everywhere Offered (λ k i. tt) (λ k i. tt) (λ k i. tt) (λ k i. tt)

  pub offered_said : AreSaid top Offered
  offered_said = record {
    type_name = λ n m h. name_offered top top.types top.offers.types n.module n.text m h;
    axiom_name = λ n m h. name_offered top top.coercions top.offers.coercions n.module n.text m h;
    constructor = λ n m h. name_offered top top.terms top.offers.terms n.module n.text m h;
    imported = λ v w m h. name_offered top top.terms top.offers.terms (Some v) w m h;
  }

  pub offered_own : IsSaidOfOwn top Offered
  offered_own w m h = name_offered top top.terms top.offers.terms None w m h
