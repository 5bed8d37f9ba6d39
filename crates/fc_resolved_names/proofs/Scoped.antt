-- What resolves is scoped, where the module does not import itself.
use Rattle.std.proofs.Common.{◌≡◌, arith, Bool, true, false, bytes_eq, All, List, [], ◌∷◌, Option, Some, None, Ok, refl, subst}
use Rattle.std.proofs.lemmas.List.Elements.{All-head, All-tail}
use Rattle.fc_syntax.specs.declared.ty.Name.{Name}
use Rattle.fc_syntax.specs.declared.fault.FaultKind.TheVariants.{NotExported, Unbound}
use Rattle.fc_syntax.specs.Tree.{Word, ModuleOf}
use Rattle.fc_model.specs.Resolution.{Top, WordSet, declared_name, no_word, ntop_of, plus, plus_all, top_of}
use Rattle.fc_model.specs.ResolutionRules.{resolves_module}
use Rattle.fc_model.proofs.Parts.{need_inv, ok_ok}
use Rattle.fc_model.proofs.Sameness.{bytes_eq_eq, bytes_eq_refl}
use Rattle.fc_used_words.specs.Scoped.{HoldsDecls, IsKnown, is_meant}
use Rattle.fc_resolved_names.specs.ResolvedNames.{ResolvedAreScoped}
use Rattle.fc_resolved_names.proofs.Distinct.{coercions_distinct, same_top, terms_distinct, types_distinct}
use Rattle.fc_resolved_names.proofs.NamesHold.{IsSaidOfOwn, names_hold}
use Rattle.fc_resolved_names.proofs.Obeying.{AreSaid, Goes}

-- a word that none of these is, is not in their set
pub in_none : (ws : List Word) (s : WordSet) (w : Word) → All (λ v. bytes_eq v w ≡ false) ws → s w ≡ false → plus_all ws s w ≡ false
in_none [] s w others e = e
in_none (v ∷ vs) s w others e =
    in_none vs (plus v s) w (All-tail (λ v. bytes_eq v w ≡ false) v vs others) (rw (All-head (λ v. bytes_eq v w ≡ false) v vs others) e)

module _ (top : Top) (alone : top.imports top.own ≡ false) where
  -- an imported module is another
  pub is_other : (v : Word) → top.imports v ≡ true → bytes_eq v top.own ≡ false
  is_other v e = by (bytes_eq v top.own) refl
    where
      by : (b : Bool) → bytes_eq v top.own ≡ b → b ≡ false
      by true same = let is = subst (λ w. top.imports w ≡ true) (bytes_eq_eq v top.own same) e in cc
      by false same = refl

  -- a name that is found is known
  known : (words : WordSet) (offered : Word → WordSet) (o : Option Word) (w : Word) (m : Name) → declared_name top words offered o w ≡ Ok m → IsKnown top words offered m
  known words offered None w m h =
      let p = need_inv (words w) Unbound _ m h in
      subst (IsKnown top words offered) (ok_ok p.1) (rw (bytes_eq_refl top.own) p.0)
  known words offered (Some v) w m h =
      let p = need_inv (top.imports v) Unbound _ m h in
      let q = need_inv (offered v w) NotExported _ m p.1 in
      subst (IsKnown top words offered) (ok_ok q.1) (rw (is_other v p.0, p.0, q.0) refl)

  known_goes : Goes (is_meant top)
  known_goes = record {
    type_here = λ k. omega arith;
    type_past = λ k i low. omega (arith, low);
    type_back = λ k i low. omega (arith, low);
    value_here = λ k. omega arith;
    value_past = λ k i low. omega (arith, low);
    value_back = λ k i low. omega (arith, low);
    join_here = λ k. omega arith;
    join_past = λ k i low. omega (arith, low);
    join_back = λ k i low. omega (arith, low);
    coercion_here = λ k. omega arith;
    coercion_past = λ k i low. omega (arith, low);
    coercion_back = λ k i low. omega (arith, low);
  }

  known_said : AreSaid top (is_meant top)
  known_said = record {
    type_name = λ n m h. known top.types top.offers.types n.module n.text m h;
    axiom_name = λ n m h. known top.coercions top.offers.coercions n.module n.text m h;
    constructor = λ n m h. known top.terms top.offers.terms n.module n.text m h;
    imported = λ v w m h. known top.terms top.offers.terms (Some v) w m h;
  }

  known_own : IsSaidOfOwn top (is_meant top)
  known_own w m h = known top.terms top.offers.terms None w m h

pub resolved_are_scoped : ResolvedAreScoped
resolved_are_scoped m n (resolves_module {m = w} {imports = imports} {exports = exports} {hidden = hidden} {ds = ds} {cs = cs} rules) others =
    let top : Top = top_of (ModuleOf w imports exports hidden ds) in
    let same : top ≡ ntop_of n = same_top w imports exports hidden rules in
    let alone : top.imports top.own ≡ false = in_none imports no_word w others refl in
    (types_distinct rules, terms_distinct rules, coercions_distinct rules, subst (λ t. HoldsDecls (is_meant t) cs) same (names_hold top (is_meant top) (known_goes top alone) (known_said top alone) (known_own top alone) rules))
