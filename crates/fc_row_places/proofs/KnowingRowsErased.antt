-- Rewrites of the nameless tree that know their place are rewrites of terms when types are gone.
use Rattle.std.proofs.Common.{◌≡◌, List, [], refl, sym, ap, ◌∙◌, subst}
use Rattle.fc_syntax.specs.declared.expr.Head.{Head}
use Rattle.fc_syntax.specs.declared.ty.Name.{Name}
use Rattle.fc_model.specs.Erasure.{Scope, below_all, below_value, binder_sorts, erased, erased_alts, erased_head, sort_of, sort_of_type}
use Rattle.fc_model.specs.Nameless.{NBinder, NExpr, NCon, NATerm, NArgs, NoNArgs, NAlts}
use Rattle.fc_model.specs.Replacing.{replaced, with_argument, with_arguments, unchanged}
use Rattle.fc_model.specs.Stepping.{Fielded}
use Rattle.fc_model.specs.Terms as term
use Rattle.fc_model.specs.Terms.{Sort, Unlifted, Term, Var, Case, Terms, Nil, NoAlt, Alt, push, pushes, sub, ups, binders, IsAtom}
use Rattle.fc_meaning.proofs.WrittenExpressions.{AreArgsWritten, IsWritten}
use Rattle.fc_counted.specs.Changes.{PartRelation, Change, change_here}
use Rattle.fc_counted.specs.Places.{Place, side_on_left, side_on_right, sorts_in}
use Rattle.fc_erased.proofs.ErasedReplacements.{erased_replaced}
use Rattle.fc_term_rows.specs.Facts.{Fact, Known, Knows}
use Rattle.fc_term_rows.specs.TermRows.{IsAmong, Without, without_first, without_later, IsNoDefault, chosen_constructor, chosen_constructor_default, chosen_number, chosen_default}
use Rattle.fc_term_rows.specs.TermRows.{reduces_case_of_head, TermRow, row_reduces, row_same, row_standing, row_fold, row_known, row_atom, row_dead_alternative}
use Rattle.fc_row_places.specs.KnowingRows.{PartsFit, NChosen, nchosen_constructor, nchosen_constructor_default, nchosen_literal, nchosen_default, NWithout, nwithout_first, nwithout_later}
use Rattle.fc_row_places.specs.KnowingRows.{NKnowingRow, nknowing_plain, nknowing_case, nknowing_case_of_atom, nknowing_dead_alternative, nknowing_case_of_head, nknowing_case_of_constructor}
use Rattle.fc_row_places.specs.KnowingRows.{nknowing_jump, nknowing_fold, answer_number, answer_first_operand, answer_second_operand}
use Rattle.fc_row_places.specs.NamelessFacts.{ErasedKnown, NFact, NFactNoneOf, NKnown}
use Rattle.fc_row_places.specs.NamelessPlaces.{NPlace, scope_at, place_at}
use Rattle.fc_row_places.specs.RowPlaceLaws.{PartsErase}
use Rattle.fc_row_places.proofs.BinderParts.{IsFactSorted}
use Rattle.fc_row_places.proofs.JoinsStand.{join_term, jump_named, njoin_stands}
use Rattle.fc_row_places.proofs.MovedFacts.{IsFactWritten, PartsBecome, no_parts_erase, FactErases, constructor_erases, literal_erases, none_erases}
use Rattle.fc_row_places.proofs.MovedParts.{unchanged_erases}
use Rattle.fc_row_places.proofs.NamelessKnowing.{Holds, nknows_holds}
use Rattle.fc_row_places.proofs.OpenedErased.{with_parts, with_term}
use Rattle.fc_row_places.proofs.NamedFields.{con_named}
use Rattle.fc_row_places.proofs.RowsErased.{row_erased}

-- ALTERNATIVES

without_erased : (s : Scope) {h : Head} {bs : List NBinder} {alts blts : NAlts} → NWithout h bs alts blts → Without (erased_head h bs) (erased_alts s alts) (erased_alts s blts)
without_erased s nwithout_first = without_first
without_erased s (nwithout_later w) = without_later (without_erased s w)

module _ (N : NKnown) (D : Name → Term → Type 0) where
  abbrev G : Known
  G = ErasedKnown N

  abbrev TermsRewritten : PartRelation
  TermsRewritten = TermRow G D

  row_by : (c : Place) (t u v : Term) → u ≡ v → TermsRewritten c t v → Change TermsRewritten c t u
  row_by c t u v e r = subst (Change TermsRewritten c t) (sym e) (change_here r)

  -- what the rewrite puts in, for parts that are known
  put_parts : (s : Scope) (o : Sort) (y b : NExpr) (parts : NArgs) (bs : List NBinder) (ss : List Sort) (ts : Terms) → IsWritten y → IsWritten b → sort_of s y ≡ o → AreArgsWritten parts
      → PartsFit s parts bs → PartsBecome s parts ss ts
      → (binder_sorts bs ≡ ss)
      × (erased s (replaced (with_arguments parts (with_argument (NATerm y) unchanged)) b) ≡ sub (pushes ts (push (erased s y) Var)) (erased (below_all bs (below_value o s)) b))
  put_parts s o y b parts bs ss ts wy wb e wp f a =
      let first = with_term s s unchanged Var y o (erased s y) wy e refl (unchanged_erases s) in
      let all = with_parts s parts bs ss ts wp f a (below_value o s) (with_argument (NATerm y) unchanged) (push (erased s y) Var) first in
      (all.0, erased_replaced s (below_all bs (below_value o s)) (with_arguments parts (with_argument (NATerm y) unchanged)) (pushes ts (push (erased s y) Var)) all.1 b wb)

  dead_erased : (c : NPlace) (y : NExpr) (hs : List term.Head) (o : Sort) (h : Head) (bs : List NBinder) (alts blts : NAlts)
      → Holds N (sorts_in (place_at c)) (side_on_left (place_at c)) (side_on_right (place_at c)) (scope_at c) y (NFactNoneOf hs) → IsAmong (erased_head h bs) hs → IsNoDefault (erased_head h bs)
      → NWithout h bs alts blts
      → Change TermsRewritten (place_at c) (Case o (erased (scope_at c) y) (erased_alts (below_value o (scope_at c)) alts))
      (Case o (erased (scope_at c) y) (erased_alts (below_value o (scope_at c)) blts))
  dead_erased c y hs o h bs alts blts k a n w = go k.fact k.is k.on_left k.on_right
    where
      go : (x : Fact) → FactErases (scope_at c) (NFactNoneOf hs) x → Knows G (side_on_left (place_at c)) (erased (scope_at c) y) x → Knows G (side_on_right (place_at c)) (erased (scope_at c) y) x
          → Change TermsRewritten (place_at c) (Case o (erased (scope_at c) y) (erased_alts (below_value o (scope_at c)) alts))
          (Case o (erased (scope_at c) y) (erased_alts (below_value o (scope_at c)) blts))
      go _ none_erases l r = change_here (row_dead_alternative l r a n (without_erased (below_value o (scope_at c)) w))

  known_erased : (c : NPlace) (y b : NExpr) (o : Sort) {f : NFact} {alts : NAlts} {bs : List NBinder} {parts : NArgs} {x : Fact} → NChosen (below_value o (scope_at c)) o f alts bs b parts
      → FactErases (scope_at c) f x → PartsFit (scope_at c) parts bs → sort_of (scope_at c) y ≡ o
      → IsWritten y → IsWritten b → IsFactWritten f → IsAtom (sorts_in (place_at c)) o (erased (scope_at c) y) → IsFactSorted (sorts_in (place_at c)) x
      → Knows G (side_on_left (place_at c)) (erased (scope_at c) y) x → Knows G (side_on_right (place_at c)) (erased (scope_at c) y) x
      → Change TermsRewritten (place_at c) (Case o (erased (scope_at c) y) (erased_alts (below_value o (scope_at c)) alts))
      (erased (scope_at c) (replaced (with_arguments parts (with_argument (NATerm y) unchanged)) b))
  unfolding pushes ups binders
  known_erased c y b o (nchosen_constructor {parts = parts} {bs = bs} q) (constructor_erases {ss = ss} {ts = ts} a) fits e wy wb wp ia sx l r =
      let s = scope_at c in
      let put = put_parts s o y b parts bs ss ts wy wb e wp fits a in
      row_by (place_at c) _ _ (sub (pushes ts (push (erased s y) Var)) (erased (below_all bs (below_value o s)) b)) put.1
      (row_known l r (chosen_constructor (q ∙ ap (λ z. Fielded z (erased (below_all bs (below_value o s)) b)) put.0)) ia sx.0 sx.1)
  known_erased c y b o (nchosen_constructor_default q) (constructor_erases a) fits e wy wb wp ia sx l r =
      let s = scope_at c in
      let put = put_parts s o y b NoNArgs [] [] Nil wy wb e tt tt no_parts_erase in
      row_by (place_at c) _ _ (sub (push (erased s y) Var) (erased (below_value o s) b)) put.1 (row_known l r (chosen_constructor_default q) ia tt tt)
  known_erased c y b o (nchosen_literal q) literal_erases fits e wy wb wp ia sx l r =
      let s = scope_at c in
      let put = put_parts s o y b NoNArgs [] [] Nil wy wb e tt tt no_parts_erase in
      row_by (place_at c) _ _ (sub (push (erased s y) Var) (erased (below_value o s) b)) put.1 (row_known l r (chosen_number q) ia tt tt)
  known_erased c y b o nchosen_default is fits e wy wb wp ia sx l r =
      let s = scope_at c in
      let put = put_parts s o y b NoNArgs [] [] Nil wy wb e tt tt no_parts_erase in
      row_by (place_at c) _ _ (sub (push (erased s y) Var) (erased (below_value o s) b)) put.1 (row_known l r chosen_default ia tt tt)

  -- what is put in is written exactly where the body is
  pub knowing_erased : PartsErase (NKnowingRow N) (TermRow G D)
  unfolding sub pushes ups binders
  knowing_erased c e d (nknowing_plain r) pl we wd se sd = row_erased G D c e d r pl we wd se sd
  knowing_erased c _ _ (nknowing_case {y = y} {b = b} {f = f} {xt = xt} {alts = alts} {bs = bs} {parts = parts} wb w ch fits e ia) pl we wd se sd =
      let h = nknows_holds N w pl in
      known_erased c y b (sort_of_type xt) ch h.is fits e h.expr_written wb h.fact_written ia h.sorted h.on_left h.on_right
  knowing_erased c _ _ (nknowing_case_of_atom {y = y} {b = b} {xt = xt} o e ia) pl we wd se sd =
      let s = scope_at c in
      let put = put_parts s Unlifted y b NoNArgs [] [] Nil we.0 we.1.1 e tt tt no_parts_erase in
      subst (λ r. Change TermsRewritten (place_at c) (Case r (erased s y) (Alt term.Default (erased (below_value r s) b) NoAlt)) (erased s (replaced (with_argument (NATerm y) unchanged) b))) (sym o)
      (row_by (place_at c) _ _ (sub (push (erased s y) Var) (erased (below_value Unlifted s) b)) put.1 (row_atom ia))
  knowing_erased c _ _ (nknowing_dead_alternative {hs = hs} {xt = xt} w a n o) pl we wd se sd = dead_erased c _ hs (sort_of_type xt) _ _ _ _ (nknows_holds N w pl) a n o
  knowing_erased c _ _ (nknowing_case_of_head k key e) pl we wd se sd = change_here (row_reduces (reduces_case_of_head k key e))
  knowing_erased c _ _ (nknowing_case_of_constructor {n = n} {args = args} {xt = xt} {alts = alts} {f = u} parts bs b l wb behind ok e at lets) pl we wd se sd =
      let s = scope_at c in
      subst (λ r. Change TermsRewritten (place_at c) (Case r (erased s (NCon n args)) (erased_alts (below_value r s) alts)) (erased s u)) (sym l)
      (change_here (row_same (λ P sp q put. con_named P s n args parts alts bs b we.0 behind wb ok e l at lets q)))
  knowing_erased c _ _ (nknowing_jump {i = i} {args = args} ps a k ok lets) pl we wd se sd =
      let s = scope_at c in
      let h = njoin_stands k in
      change_here (row_standing (Var (s.joins i)) (join_term s ps a) h.on_left h.on_right (λ P sp q put e. jump_named P s i args ps a we h.written ok lets q e))
  knowing_erased c _ _ (nknowing_fold (answer_number z) v) pl we wd se sd = change_here (row_fold v tt)
  knowing_erased c _ _ (nknowing_fold answer_first_operand v) pl we wd se sd = change_here (row_fold v se.1)
  knowing_erased c _ _ (nknowing_fold answer_second_operand v) pl we wd se sd = change_here (row_fold v se.3)
