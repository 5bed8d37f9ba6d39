-- Facts of the nameless tree when types are gone, and facts that are moved past binders.
use Rattle.std.proofs.Common.{◌≡◌, ℕ, suc, ◌+◌, ℤ, List, [], ◌∷◌, length, refl, sym, ap, ap₂, ◌∙◌, subst, subst₂, arith}
use Rattle.std.proofs.Math.Path.{fun_ext}
use Rattle.fc_syntax.specs.declared.ty.Name.{Name}
use Rattle.fc_model.specs.Erasure.{Scope, arg_sorts, below, below_all, below_unnamed, below_value, binder_sorts, erased, erased_args, sort_of, sort_of_type}
use Rattle.fc_model.specs.Nameless.{NTy, NCo, NBinder, NBValue, NBType, NBCo, NExpr, NATerm, NAType, NACo, NArgs, NoNArgs, MoreNArgs}
use Rattle.fc_model.specs.Replacing.{Renaming, variables, coercion_variables, renamed, past_a_type, past_a_coercion, past_a_value}
use Rattle.fc_model.specs.Terms as term
use Rattle.fc_model.specs.Terms.{Sort, Unlifted, Term, Var, Terms, Nil, Cons, ren, ren_terms}
use Rattle.fc_rows.specs.Shrinking.{moved_args}
use Rattle.fc_meaning.proofs.Unnamed.{sub-var}
use Rattle.fc_meaning.proofs.WrittenExpressions.{AreArgsWritten, IsWritten}
use Rattle.fc_counted.proofs.TermSubstitutions.{ren_is_sub, ren-ren, ren-ren_terms}
use Rattle.fc_erased.specs.Erasing.{Erases}
use Rattle.fc_erased.specs.ErasureLaws.{AnyVariable}
use Rattle.fc_erased.proofs.ErasedReplacements.{kept_variables, past_type_erases, past_coercion_erases, past_value_erases, written_renamed}
use Rattle.fc_erased.proofs.WrittenPut.{written_args}
use Rattle.fc_term_rows.specs.Facts.{Fact, FactCon, FactNumber, FactNoneOf, moved_fact}
use Rattle.fc_row_places.specs.NamelessFacts.{NFact, NFactCon, NFactLit, NFactNoneOf, past_binder, past_binders, fact_past_binder, fact_past_binders, moved_nfact, BehindTypes, behind_none}
use Rattle.fc_row_places.specs.NamelessFacts.{behind_one}
use Rattle.fc_row_places.proofs.MovedParts.{moved_expr, moved_sort}

-- PARTS AND FACTS WHEN TYPES ARE GONE

-- terms for parts: a coercion may be any
pub data PartsBecome (s : Scope) : NArgs → List Sort → Terms → Type 0 where
  no_parts_erase : PartsBecome s NoNArgs [] Nil
  term_part : {e : NExpr} {rest : NArgs} {o : Sort} {t : Term} {ss : List Sort} {ts : Terms} → sort_of s e ≡ o → erased s e ≡ t → PartsBecome s rest ss ts
      → PartsBecome s (MoreNArgs (NATerm e) rest) (o ∷ ss) (Cons t ts)
  type_part : {u : NTy} {rest : NArgs} {ss : List Sort} {ts : Terms} → PartsBecome s rest ss ts → PartsBecome s (MoreNArgs (NAType u) rest) ss ts
  coercion_part : {g : NCo} {rest : NArgs} {t : Term} {ss : List Sort} {ts : Terms} → PartsBecome s rest ss ts → PartsBecome s (MoreNArgs (NACo g) rest) (Unlifted ∷ ss) (Cons t ts)

pub data FactErases (s : Scope) : NFact → Fact → Type 0 where
  constructor_erases : {n : Name} {args : NArgs} {ss : List Sort} {ts : Terms} → PartsBecome s args ss ts → FactErases s (NFactCon n args) (FactCon n ss ts)
  literal_erases : {z : ℤ} → FactErases s (NFactLit z) (FactNumber z)
  none_erases : {hs : List term.Head} → FactErases s (NFactNoneOf hs) (FactNoneOf hs)

abbrev pub IsFactWritten : NFact → Type 0
IsFactWritten (NFactCon n args) = AreArgsWritten args
IsFactWritten (NFactLit z) = Unit {0}
IsFactWritten (NFactNoneOf hs) = Unit {0}

-- the arguments of a constructor
pub args_are : (s : Scope) (args : NArgs) → PartsBecome s args (arg_sorts s args) (erased_args s args)
args_are s NoNArgs = no_parts_erase
args_are s (MoreNArgs (NATerm e) rest) = term_part refl refl (args_are s rest)
args_are s (MoreNArgs (NAType t) rest) = type_part (args_are s rest)
args_are s (MoreNArgs (NACo g) rest) = coercion_part (args_are s rest)

pub behind_are : (s : Scope) {args parts : NArgs} {ss : List Sort} {ts : Terms} → BehindTypes args parts → PartsBecome s args ss ts → PartsBecome s parts ss ts
behind_are s behind_none w = w
behind_are s (behind_one b) (type_part w) = behind_are s b w

-- with types before them
pub types_are : (s : Scope) {args parts : NArgs} {ss : List Sort} {ts : Terms} → BehindTypes args parts → PartsBecome s parts ss ts → PartsBecome s args ss ts
types_are s behind_none w = w
types_are s (behind_one b) w = type_part (types_are s b w)

pub types_written : {args parts : NArgs} → BehindTypes args parts → AreArgsWritten parts → AreArgsWritten args
types_written behind_none w = w
types_written (behind_one b) w = (tt, types_written b w)

pub behind_written : {args parts : NArgs} → BehindTypes args parts → AreArgsWritten args → AreArgsWritten parts
behind_written behind_none w = w
behind_written (behind_one b) w = behind_written b w.1

-- MOVING

-- a renaming that changes nothing
pub ren_itself : (t : Term) → ren (λ n. n) t ≡ t
ren_itself t = ren_is_sub (λ n. n) t ∙ sub-var t

ren_themselves : (ts : Terms) → ren_terms (λ n. n) ts ≡ ts
unfolding ren
ren_themselves Nil = refl
ren_themselves (Cons t ts) = ap₂ Cons (ren_itself t) (ren_themselves ts)

pub fact_itself : (f : Fact) → moved_fact (λ n. n) f ≡ f
fact_itself (FactCon n ss ts) = ap (FactCon n ss) (ren_themselves ts)
fact_itself (FactNumber z) = refl
fact_itself (FactNoneOf hs) = refl

fact_twice : (q r : ℕ → ℕ) (f : Fact) → moved_fact q (moved_fact r f) ≡ moved_fact (λ n. q (r n)) f
fact_twice q r (FactCon n ss ts) = ap (FactCon n ss) (ren-ren_terms q r ts)
fact_twice q r (FactNumber z) = refl
fact_twice q r (FactNoneOf hs) = refl

-- an expression and a fact further in, where what stood at n stands at q n
pub record Moved (s i : Scope) (q : ℕ → ℕ) (e d : NExpr) (f g : NFact) : Type 0 where
  pub expr : erased i d ≡ ren q (erased s e)
  pub fact : (x : Fact) → FactErases s f x → FactErases i g (moved_fact q x)
  pub expr_written : IsWritten d
  pub fact_written : IsFactWritten g

pub moved_none : (s : Scope) (e : NExpr) (f : NFact) → IsWritten e → IsFactWritten f → Moved s s (λ n. n) e e f f
moved_none s e f we wf = record {
  expr = sym (ren_itself (erased s e));
  fact = λ x w. subst (FactErases s f) (sym (fact_itself x)) w;
  expr_written = we;
  fact_written = wf;
}

pub moved_twice : (s i j : Scope) (q r : ℕ → ℕ) (e d b : NExpr) (f g h : NFact) → Moved s i q e d f g → Moved i j r d b g h → Moved s j (λ n. r (q n)) e b f h
moved_twice s i j q r e d b f g h m k = record {
  expr = k.expr ∙ ap (ren r) m.expr ∙ ren-ren r q (erased s e);
  fact = λ x w. subst (FactErases j h) (fact_twice r q x) (k.fact (moved_fact q x) (m.fact x w));
  expr_written = k.expr_written;
  fact_written = k.fact_written;
}

module _ (s i : Scope) (r : Renaming) (q : ℕ → ℕ) (w : Erases variables AnyVariable i s r (λ n. Var (q n))) where
  pub parts_moved : {args : NArgs} {ss : List Sort} {ts : Terms} → AreArgsWritten args → PartsBecome s args ss ts → PartsBecome i (moved_args r args) ss (ren_terms q ts)
  unfolding ren
  parts_moved o no_parts_erase = no_parts_erase
  parts_moved o (term_part {e = e} a b rest) = term_part (moved_sort i s r q w e ∙ a) (moved_expr i s r q w e o.0 ∙ ap (ren q) b) (parts_moved o.1 rest)
  parts_moved o (type_part rest) = type_part (parts_moved o.1 rest)
  parts_moved o (coercion_part rest) = coercion_part (parts_moved o.1 rest)

  fact_moved : (f : NFact) → IsFactWritten f → (x : Fact) → FactErases s f x → FactErases i (moved_nfact r f) (moved_fact q x)
  fact_moved (NFactCon n args) o _ (constructor_erases p) = constructor_erases (parts_moved o p)
  fact_moved (NFactLit z) o _ literal_erases = literal_erases
  fact_moved (NFactNoneOf hs) o _ none_erases = none_erases

  fact_stays_written : (f : NFact) → IsFactWritten f → IsFactWritten (moved_nfact r f)
  fact_stays_written (NFactCon n args) o = written_args variables coercion_variables AnyVariable kept_variables r (λ j. tt) args o
  fact_stays_written (NFactLit z) o = tt
  fact_stays_written (NFactNoneOf hs) o = tt

  pub moved_by : (e : NExpr) (f : NFact) → IsWritten e → IsFactWritten f → Moved s i q e (renamed r e) f (moved_nfact r f)
  moved_by e f we wf = record {
    expr = moved_expr i s r q w e we;
    fact = fact_moved f wf;
    expr_written = written_renamed r e we;
    fact_written = fact_stays_written f wf;
  }

pub fact_past_more : (b : NBinder) (bs : List NBinder) (f : NFact) → fact_past_binders (b ∷ bs) f ≡ fact_past_binders bs (fact_past_binder b f)
fact_past_more b bs (NFactCon n args) = refl
fact_past_more b bs (NFactLit z) = refl
fact_past_more b bs (NFactNoneOf hs) = refl

pub fact_past_none : (f : NFact) → fact_past_binders [] f ≡ f
fact_past_none (NFactCon n args) = refl
fact_past_none (NFactLit z) = refl
fact_past_none (NFactNoneOf hs) = refl

-- past one binder, which may be gone
abbrev pub steps_of : NBinder → ℕ → ℕ
steps_of (NBValue t) n = suc n
steps_of (NBType k) n = n
steps_of (NBCo r t u) n = suc n

pub moved_past_binder : (b : NBinder) (s : Scope) (e : NExpr) (f : NFact) → IsWritten e → IsFactWritten f → Moved s (below b s) (steps_of b) e (past_binder b e) f (fact_past_binder b f)
moved_past_binder (NBValue t) s e f we wf = moved_by s (below_value (sort_of_type t) s) past_a_value suc (past_value_erases (sort_of_type t) s) e f we wf
moved_past_binder (NBType k) s e f we wf = moved_by s s past_a_type (λ n. n) (past_type_erases s) e f we wf
moved_past_binder (NBCo r t u) s e f we wf = moved_by s (below_unnamed s) past_a_coercion suc (past_coercion_erases s) e f we wf

unfoldable pub behind : ℕ → (ℕ → ℕ) → ℕ → ℕ
behind m q n = m + q n

pub all_steps : (b : NBinder) (bs : List NBinder) → behind (length (binder_sorts bs)) (steps_of b) ≡ behind (length (binder_sorts (b ∷ bs))) (λ n. n)
unfolding behind
all_steps (NBValue t) bs = fun_ext (λ n. omega arith)
all_steps (NBType k) bs = refl
all_steps (NBCo r t u) bs = fun_ext (λ n. omega arith)

pub moved_past_all : (bs : List NBinder) (s : Scope) (e : NExpr) (f : NFact) → IsWritten e → IsFactWritten f
    → Moved s (below_all bs s) (λ n. length (binder_sorts bs) + n) e (past_binders bs e) f (fact_past_binders bs f)
unfolding behind
moved_past_all [] s e f we wf =
    let none : (λ n. n) ≡ (λ n. 0 + n) = fun_ext (λ n. omega arith) in
    subst₂ (λ q g. Moved s s q e e f g) none (sym (fact_past_none f)) (moved_none s e f we wf)
moved_past_all (b ∷ bs) s e f we wf =
    let i = below b s in
    let one = moved_past_binder b s e f we wf in
    let rest = moved_past_all bs i (past_binder b e) (fact_past_binder b f) one.expr_written one.fact_written in
    subst₂ (λ q g. Moved s (below_all bs i) q e (past_binders bs (past_binder b e)) f g) (all_steps b bs) (sym (fact_past_more b bs f))
    (moved_twice s i (below_all bs i) (steps_of b) (λ n.
    length (binder_sorts bs) + n) e (past_binder b e) (past_binders bs (past_binder b e)) f (fact_past_binder b f) (fact_past_binders bs (fact_past_binder b f)) one rest)
