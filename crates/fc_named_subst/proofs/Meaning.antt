-- What substitution comes to is found again in its scope; so its names are put back to an expression that means it.
use Rattle.std.proofs.Common.{◌≡◌, ℕ, ◌+◌, Bool, true, false, if◌then◌else◌, List, [], ◌∷◌, Option, Some, None, option_map, Ok, slice_get, bytes_eq, refl, sym, ap, ◌∙◌, subst}
use Rattle.fc_syntax.specs.declared.ty.Name.{Name}
use Rattle.fc_syntax.specs.declared.fault.FaultKind.TheVariants.{NotExported, Unbound}
use Rattle.fc_syntax.specs.Tree.{Word, Arg, Expr}
use Rattle.fc_model.specs.Nameless.{NArg, NExpr}
use Rattle.fc_model.specs.Resolution.{IsJoin, IsValue, Join, Locals, Nowhere, TermWord, Top, Value, WordSet, declared_name, found_term, index_of, past_join, past_value, resolved_arg, resolved_expr}
use Rattle.fc_model.specs.ResolutionRules.{ResolvesArg, resolves_term, resolves_type, resolves_coercion}
use Rattle.fc_model.specs.Worded.{WExpr, bare_expr}
use Rattle.fc_model.proofs.Parts.{and_then_inv, need_inv, ok_ok}
use Rattle.fc_model.proofs.ResolvedExpressionsAre.{expr_is_resolved, resolved_arg_is, resolved_expr_is}
use Rattle.fc_model.proofs.Sameness.{bytes_eq_eq, bytes_eq_refl, false_true}
use Rattle.fc_scope.specs.WordsAt.{join_word, value_word}
use Rattle.fc_used_words.specs.Scoped.{HoldsExpr, nothing_around}
use Rattle.fc_used_words.specs.Standing.{is_found, outside}
use Rattle.fc_naming.specs.Named.{IsNamedExpr}
use Rattle.fc_resolved_names.proofs.Obeying.{Goes, AreSaid, Reaches, arg_obeys, expr_obeys, in_a_coercion, in_a_type, in_a_value, join_join, join_past_join, join_past_value, one_more, some_some, value_past_join, value_past_value, value_value}
use Rattle.fc_named_subst.specs.Substituted.{IsApart, IsSubstituted, behind, substituted}
use Rattle.fc_named_subst.proofs.Kept.{in_argument, replaced_holds}

-- WORDS AT DISTANCES

-- the word that reaches a distance stands there
word_there : (ws : List Word) (w : Word) (i : ℕ) → index_of ws w ≡ Some i → slice_get ws i ≡ Some w
word_there [] w i h = absurd cc
word_there (v ∷ vs) w i h = by (bytes_eq v w) refl (λ j g. word_there vs w j g) h
  where
    by : (b : Bool) → bytes_eq v w ≡ b → ((j : ℕ) → index_of vs w ≡ Some j → slice_get vs j ≡ Some w) → (if b then Some 0 else option_map (λ j. j + 1) (index_of vs w)) ≡ Some i
        → slice_get (v ∷ vs) i ≡ Some w
    by true same more h = subst (λ j. slice_get (v ∷ vs) j ≡ Some w) (some_some 0 i h) (ap (λ u. Some u) (bytes_eq_eq v w same))
    by false same more h = let p = one_more (index_of vs w) i h in subst (λ j. slice_get (v ∷ vs) j ≡ Some w) p.2 (more p.0 p.1)

value_there : (xs : List TermWord) (w : Word) (i : ℕ) → found_term xs w ≡ IsValue i → value_word xs i ≡ Some w
value_there [] w i h = absurd cc
value_there (Value v ∷ xs) w i h = by (bytes_eq v w) refl (λ j g. value_there xs w j g) h
  where
    by : (b : Bool) → bytes_eq v w ≡ b → ((j : ℕ) → found_term xs w ≡ IsValue j → value_word xs j ≡ Some w) → (if b then IsValue 0 else past_value (found_term xs w)) ≡ IsValue i
        → value_word (Value v ∷ xs) i ≡ Some w
    by true same more h = subst (λ j. value_word (Value v ∷ xs) j ≡ Some w) (value_value 0 i h) (ap (λ u. Some u) (bytes_eq_eq v w same))
    by false same more h = let p = value_past_value (found_term xs w) i h in subst (λ j. value_word (Value v ∷ xs) j ≡ Some w) p.2 (more p.0 p.1)
value_there (Join v ∷ xs) w i h = by (bytes_eq v w) (λ j g. value_there xs w j g) h
  where
    by : (b : Bool) → ((j : ℕ) → found_term xs w ≡ IsValue j → value_word xs j ≡ Some w) → (if b then IsJoin 0 else past_join (found_term xs w)) ≡ IsValue i → value_word xs i ≡ Some w
    by true more h = absurd cc
    by false more h = more i (value_past_join (found_term xs w) i h)

join_there : (xs : List TermWord) (w : Word) (i : ℕ) → found_term xs w ≡ IsJoin i → join_word xs i ≡ Some w
join_there [] w i h = absurd cc
join_there (Value v ∷ xs) w i h = by (bytes_eq v w) (λ j g. join_there xs w j g) h
  where
    by : (b : Bool) → ((j : ℕ) → found_term xs w ≡ IsJoin j → join_word xs j ≡ Some w) → (if b then IsValue 0 else past_value (found_term xs w)) ≡ IsJoin i → join_word xs i ≡ Some w
    by true more h = absurd cc
    by false more h = more i (join_past_value (found_term xs w) i h)
join_there (Join v ∷ xs) w i h = by (bytes_eq v w) refl (λ j g. join_there xs w j g) h
  where
    by : (b : Bool) → bytes_eq v w ≡ b → ((j : ℕ) → found_term xs w ≡ IsJoin j → join_word xs j ≡ Some w) → (if b then IsJoin 0 else past_join (found_term xs w)) ≡ IsJoin i
        → join_word (Join v ∷ xs) i ≡ Some w
    by true same more h = subst (λ j. join_word (Join v ∷ xs) j ≡ Some w) (join_join 0 i h) (ap (λ u. Some u) (bytes_eq_eq v w same))
    by false same more h = let p = join_past_join (found_term xs w) i h in subst (λ j. join_word (Join v ∷ xs) j ≡ Some w) p.2 (more p.0 p.1)

-- NAMES OF DECLARATIONS

none_some : {Y : Type 0} (v : Word) → None ≡ Some v → Y
none_some v h = absurd cc

abbrev here : Word → Word → Name
here m w = record { «module» = Some m; text = w }

module _ (top : Top) (apart : IsApart top) where
  not_own : (v : Word) → top.imports v ≡ true → bytes_eq v top.own ≡ false
  not_own v h = by (bytes_eq v top.own) refl
    where
      by : (b : Bool) → bytes_eq v top.own ≡ b → b ≡ false
      by true same = false_true (sym (subst (λ u. top.imports u ≡ false) (sym (bytes_eq_eq v top.own same)) apart.imports) ∙ h)
      by false same = refl

  -- an imported name is written with its module
  outside_there : (words : WordSet) (offered : Word → WordSet) (v w : Word) (m : Name) → declared_name top words offered (Some v) w ≡ Ok m → outside top.own m.module ≡ Some v
  outside_there words offered v w m h =
      let p = need_inv (top.imports v) Unbound _ m h in
      let q = need_inv (offered v w) NotExported _ m p.1 in
      subst (λ (n : Name). outside top.own n.module ≡ Some v) (ok_ok q.1) (rw (not_own v p.0) refl)

  -- a name that is found is found as it is written
  written_is_found : (words : WordSet) (offered : Word → WordSet) (o : Option Word) (w : Word) (m : Name) → declared_name top words offered o w ≡ Ok m
      → declared_name top words offered (outside top.own m.module) m.text ≡ Ok m
  written_is_found words offered None w m h =
      let p = need_inv (words w) Unbound _ m h in
      subst (λ (n : Name). declared_name top words offered (outside top.own n.module) n.text ≡ Ok n) (ok_ok p.1) (rw (bytes_eq_refl top.own, p.0) refl)
  written_is_found words offered (Some v) w m h =
      let p = need_inv (top.imports v) Unbound _ m h in
      let q = need_inv (offered v w) NotExported _ m p.1 in
      subst (λ (n : Name). declared_name top words offered (outside top.own n.module) n.text ≡ Ok n) (ok_ok q.1) (rw (not_own v p.0, p.0, q.0) refl)

  own_text : (words : WordSet) (offered : Word → WordSet) (w : Word) (m : Name) → declared_name top words offered None w ≡ Ok m → w ≡ m.text
  own_text words offered w m h = ap (λ (n : Name). n.text) (ok_ok (need_inv (words w) Unbound _ m h).1)

  -- WHAT IS IN SCOPE

  goes_found : (s : Locals) → Goes (is_found top s)
  goes_found s = record {
    type_here = λ k. tt;
    type_past = λ k i h. h;
    type_back = λ k i h. h;
    value_here = λ k. tt;
    value_past = λ k i h. h;
    value_back = λ k i h. h;
    join_here = λ k. tt;
    join_past = λ k i h. h;
    join_back = λ k i h. h;
    coercion_here = λ k. tt;
    coercion_past = λ k i h. h;
    coercion_back = λ k i h. h;
  }

  said_found : (s : Locals) → AreSaid top (is_found top s)
  said_found s = record {
    type_name = λ n m h. written_is_found top.types top.offers.types n.module n.text m h;
    axiom_name = λ n m h. written_is_found top.coercions top.offers.coercions n.module n.text m h;
    constructor = λ n m h. written_is_found top.terms top.offers.terms n.module n.text m h;
    imported = λ v w m h. (
      written_is_found top.terms top.offers.terms (Some v) w m h,
      λ none. none_some v (sym none ∙ outside_there top.terms top.offers.terms v w m h),
    );
  }

  reaches_found : (s : Locals) → Reaches top (is_found top s) s nothing_around
  reaches_found s = record {
    types = λ w i h. (w, word_there s.types w i h, h, refl);
    values = λ w i h. (w, value_there s.terms w i h, h, refl);
    joins = λ w i h. (w, join_there s.terms w i h, h, refl);
    coercions = λ w i h. (w, word_there s.coercions w i h, h, refl);
    definitions = λ w m nowhere h. (
      written_is_found top.terms top.offers.terms None w m h,
      λ none. (subst (λ u. found_term s.terms u ≡ Nowhere) (own_text top.terms top.offers.terms w m h) nowhere, refl),
    );
  }

  -- behind a word that stands for a piece
  reaches_behind : (s : Locals) (x : Word) {by : Arg} {a : NArg} → ResolvesArg top s by a → Reaches top (is_found top s) (behind x by s) (in_argument a nothing_around)
  reaches_behind s x (resolves_term e) = in_a_value (goes_found s) (said_found s) x s nothing_around (reaches_found s)
  reaches_behind s x (resolves_type t) = in_a_type (goes_found s) (said_found s) x s nothing_around (reaches_found s)
  reaches_behind s x (resolves_coercion g) = in_a_coercion (goes_found s) (said_found s) x s nothing_around (reaches_found s)

  -- WHAT SUBSTITUTION COMES TO

  substituted_is_found : (s : Locals) (x : Word) (by : Arg) (e : Expr) (m : NExpr) → substituted top s x by e ≡ Ok m → HoldsExpr (is_found top s) nothing_around m
  substituted_is_found s x by e m h =
      let p = and_then_inv (resolved_expr top (behind x by s) e) _ m h in
      let q = and_then_inv (resolved_arg top s by) _ m p.2 in
      let piece = resolved_arg_is top s by q.0 q.1 in
      let whole = resolved_expr_is top (behind x by s) e p.0 p.1 in
      subst (λ (n : NExpr). HoldsExpr (is_found top s) nothing_around n) (ok_ok q.2)
      (replaced_holds (goes_found s) q.0 p.0 nothing_around (arg_obeys (goes_found s) (said_found s) piece nothing_around (reaches_found s))
      (expr_obeys (goes_found s) (said_found s) whole (in_argument q.0 nothing_around) (reaches_behind s x piece)))

  pub named_is_substituted : (s : Locals) (x : Word) (by : Arg) (e answer : Expr) (m : WExpr) → substituted top s x by e ≡ Ok (bare_expr m) → IsNamedExpr top s m answer
      → IsSubstituted top s answer (substituted top s x by e)
  named_is_substituted s x by e answer m h named = record {
    form = bare_expr m;
    is = h;
    means = expr_is_resolved top (named.resolves (substituted_is_found s x by e (bare_expr m) h));
  }
