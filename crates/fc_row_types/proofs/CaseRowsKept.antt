-- Rows on cases that take no alternative: merged cases, dead alternatives, and lets that move out.
use Rattle.std.proofs.Common.{◌≡◌, ℕ, zero, suc, ℤ, true, nat_lt, int_lt, List, [], Some, refl, sym, ◌∙◌, subst, arith}
use Rattle.std.specs.List.{list_any}
use Rattle.std.proofs.lemmas.Bool.Decides.{nat_tests}
use Rattle.fc_syntax.specs.declared.expr.Head.{Head}
use Rattle.fc_syntax.specs.declared.expr.Head.TheVariants as head
use Rattle.fc_model.specs.Kinding.{Modules}
use Rattle.fc_model.specs.Nameless.{NTy, NTVar, NBranch, NAlt}
use Rattle.fc_model.specs.Nameless.{NLocal, NCase, NAlts, NoNAlts, MoreNAlts}
use Rattle.fc_model.specs.Replacing.{expressions, put_in_alts, value_alone, whole_coercions}
use Rattle.fc_model.specs.Substituting.{raised_type, substituted_type}
use Rattle.fc_model.specs.Typing.{Before, Start, AfterDefault, AfterLit, AfterCon, Context, constructor_in_order, default_in_order, literal_in_order, with_value, without_joins}
use Rattle.fc_model.specs.TypingLaws.{AreDeclaredKinded}
use Rattle.fc_model.specs.TypingRules.{HasType, typed_local, typed_case, AltsFit, no_alts, default_alt, literal_alt, con_alt}
use Rattle.fc_model.proofs.CallsKept.{raised_by_nothing}
use Rattle.fc_model.proofs.Parts.{ok_ok}
use Rattle.fc_model.proofs.PutInKept.{alts_kept}
use Rattle.fc_model.proofs.ReplacedKept.{at_a_value_fits, expressions_stand}
use Rattle.fc_model.proofs.Sameness.{false_true}
use Rattle.fc_model.proofs.Substitutions.{variables_for_themselves}
use Rattle.fc_row_types.specs.TypesKept.{KeepsTypes}
use Rattle.fc_rows.specs.Shrinking.{alt_dead, case_merge, heads_excluded, known, same_head, without_alternative}
use Rattle.fc_row_types.proofs.Holding.{closed}
use Rattle.fc_row_types.proofs.Made.{if_some_inv, made_inv, none_some, some_some}

-- ORDER

-- what stands behind one alternative may stand behind what is before it
earlier_literal : (b : Before) (m n : ℤ) → literal_in_order b m ≡ true → int_lt m n ≡ true → literal_in_order b n ≡ true
earlier_literal Start m n h l = refl
earlier_literal AfterDefault m n h l = refl
earlier_literal (AfterLit k) m n h l = grind (arith)
earlier_literal (AfterCon i) m n h l = false_true h

earlier_constructor : (b : Before) (m n : ℕ) → constructor_in_order b m ≡ true → nat_lt m n ≡ true → constructor_in_order b n ≡ true
earlier_constructor Start m n h l = refl
earlier_constructor AfterDefault m n h l = refl
earlier_constructor (AfterLit k) m n h l = false_true h
earlier_constructor (AfterCon i) m n h l = grind (arith, nat_tests)

earlier_default : (b : Before) (n : ℤ) → default_in_order b ≡ true → literal_in_order b n ≡ true
earlier_default Start n h = refl
earlier_default AfterDefault n h = false_true h
earlier_default (AfterLit k) n h = false_true h
earlier_default (AfterCon i) n h = false_true h

default_constructor : (b : Before) (n : ℕ) → default_in_order b ≡ true → constructor_in_order b n ≡ true
default_constructor Start n h = refl
default_constructor AfterDefault n h = false_true h
default_constructor (AfterLit k) n h = false_true h
default_constructor (AfterCon i) n h = false_true h

module _ (ms : Modules) where
  behind_default : {c : Context} {s rt : NTy} {alts : NAlts} (b : Before) → default_in_order b ≡ true → AltsFit ms c s rt AfterDefault alts → AltsFit ms c s rt b alts
  behind_default b h no_alts = no_alts
  behind_default b h (default_alt k p order more) = false_true order
  behind_default b h (literal_alt {n = n} k p int order more) = literal_alt k p int (earlier_default b n h) more
  behind_default b h (con_alt k kinds p found is order fits more) = con_alt k kinds p found is (default_constructor b k.number h) fits more

  behind_literal : {c : Context} {s rt : NTy} {alts : NAlts} (b : Before) (m : ℤ) → literal_in_order b m ≡ true → AltsFit ms c s rt (AfterLit m) alts → AltsFit ms c s rt b alts
  behind_literal b m h no_alts = no_alts
  behind_literal b m h (default_alt k p order more) = false_true order
  behind_literal b m h (literal_alt {n = n} k p int order more) = literal_alt k p int (earlier_literal b m n h order) more
  behind_literal b m h (con_alt k kinds p found is order fits more) = false_true order

  behind_constructor : {c : Context} {s rt : NTy} {alts : NAlts} (b : Before) (m : ℕ) → constructor_in_order b m ≡ true → AltsFit ms c s rt (AfterCon m) alts
      → AltsFit ms c s rt b alts
  behind_constructor b m h no_alts = no_alts
  behind_constructor b m h (default_alt k p order more) = false_true order
  behind_constructor b m h (literal_alt k p int order more) = false_true order
  behind_constructor b m h (con_alt k kinds p found is order fits more) = con_alt k kinds p found is (earlier_constructor b m k.number h order) fits more

  rest_fits : {c : Context} {s rt : NTy} {a : NAlt} {rest : NAlts} (b : Before) → AltsFit ms c s rt b (MoreNAlts a rest) → AltsFit ms c s rt b rest
  rest_fits b (default_alt k p order more) = behind_default b order more
  rest_fits b (literal_alt {n = n} k p int order more) = behind_literal b n order more
  rest_fits b (con_alt k kinds p found is order fits more) = behind_constructor b k.number order more

  later_fit : {c : Context} {s rt : NTy} {a : NAlt} {rest others : NAlts} (b : Before) → AltsFit ms c s rt b (MoreNAlts a rest)
      → ((d : Before) → AltsFit ms c s rt d rest → AltsFit ms c s rt d others) → AltsFit ms c s rt b (MoreNAlts a others)
  later_fit b (default_alt k p order more) go = default_alt k p order (go _ more)
  later_fit b (literal_alt k p int order more) go = literal_alt k p int order (go _ more)
  later_fit b (con_alt k kinds p found is order fits more) go = con_alt k kinds p found is order fits (go _ more)

  without_kept : (c : Context) (s rt : NTy) (hs : List Head) (i : ℕ) (b : Before) (alts blts : NAlts) → without_alternative hs i alts ≡ Some blts → AltsFit ms c s rt b alts
      → AltsFit ms c s rt b blts
  without_kept c s rt hs i b NoNAlts blts h fit = none_some h
  without_kept c s rt hs zero b (MoreNAlts (NBranch k bs e) rest) blts h fit =
      let m = if_some_inv (list_any (same_head k) hs) (Some rest) blts h in
      subst (λ x. AltsFit ms c s rt b x) (some_some m.1) (rest_fits b fit)
  without_kept c s rt hs (suc i) b (MoreNAlts a rest) blts h fit =
      let m = made_inv (λ more. MoreNAlts a more) (without_alternative hs i rest) blts h in
      subst (λ x. AltsFit ms c s rt b x) m.2 (later_fit b fit (λ d. without_kept c s rt hs i d rest m.0 m.1))

  pub alt_dead_keeps : (i : ℕ) → KeepsTypes ms (alt_dead i)
  alt_dead_keeps i s g (NCase e xt rt alts) f h t (typed_case j k p sk rk fit v) =
      let m = made_inv (λ rest. NCase e xt rt rest) (without_alternative (heads_excluded (known s e)) i alts) f h in
      subst (λ y. HasType ms s.context y rt) m.2
      (typed_case j k p sk rk (without_kept (with_value xt s.context) xt rt (heads_excluded (known s e)) i Start alts m.0 m.1 fit) v)
  alt_dead_keeps i s g e f h t typed = none_some h

  -- MERGED CASES

  module _ (declared : AreDeclaredKinded ms) where
    -- alternatives for the case binder of another case, in the place of the other's
    merged : (c : Context) (xt yt qt rt : NTy) (alts : NAlts) → HasType ms (without_joins (with_value xt c)) (NLocal zero) yt
        → AltsFit ms (with_value yt (with_value xt c)) yt qt Start alts → qt ≡ rt
        → AltsFit ms (with_value xt c) xt rt Start (put_in_alts expressions whole_coercions (value_alone (NLocal 0)) alts)
    merged c xt yt qt rt alts (typed_local a) fit same =
        let d = with_value xt c in
        let e : xt ≡ yt = ok_ok a in
        let fits = at_a_value_fits ms d yt (NLocal 0) (typed_local a) (λ int. refl) in
        let all = alts_kept (closed ms declared) (expressions_stand ms (closed ms declared)) (with_value yt d) d (value_alone (NLocal 0)) fits yt qt Start alts fit in
        let there = subst (λ x. AltsFit ms d (substituted_type NTVar yt) x Start (put_in_alts expressions whole_coercions (value_alone (NLocal 0)) alts))
        (variables_for_themselves qt ∙ same) all in
        subst (λ x. AltsFit ms d x rt Start (put_in_alts expressions whole_coercions (value_alone (NLocal 0)) alts)) (variables_for_themselves yt ∙ sym e) there

    inner_case : (c : Context) (xt yt qt rt t : NTy) (alts : NAlts) → HasType ms (with_value xt c) (NCase (NLocal zero) yt qt alts) t → t ≡ rt
        → AltsFit ms (with_value xt c) xt rt Start (put_in_alts expressions whole_coercions (value_alone (NLocal 0)) alts)
    inner_case c xt yt qt rt t alts (typed_case j k p sk rk fit v) same = merged c xt yt qt rt alts p fit same

    only_default : (c : Context) (xt yt qt rt : NTy) (alts : NAlts)
        → AltsFit ms (with_value xt c) xt rt Start (MoreNAlts (NBranch head.Default [] (NCase (NLocal zero) yt qt alts)) NoNAlts)
        → AltsFit ms (with_value xt c) xt rt Start (put_in_alts expressions whole_coercions (value_alone (NLocal 0)) alts)
    only_default c xt yt qt rt alts (default_alt k p order more) = inner_case c xt yt qt rt (raised_type 0 rt) alts p (raised_by_nothing rt)

    pub case_merge_keeps : KeepsTypes ms (λ s e. case_merge e)
    case_merge_keeps s g (NCase e xt rt (MoreNAlts (NBranch head.Default [] (NCase (NLocal zero) yt qt alts)) NoNAlts)) f h t (typed_case j k p sk rk fit v) =
        subst (λ y. HasType ms s.context y rt) (some_some h) (typed_case j k p sk rk (only_default s.context xt yt qt rt alts fit) v)
    case_merge_keeps s g e f h t typed = none_some h
