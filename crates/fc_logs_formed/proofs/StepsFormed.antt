-- A step of a formed module within the limits names a definition by a word of its form, and a place by numbers that can be written.
use Rattle.std.proofs.Common.{◌≡◌, ◌≤◌, ◌<◌, ◌+◌, ℕ, zero, suc, true, false, All, List, [], ◌∷◌, ◌++◌, length, Option, Some, None, refl, sym, ap, ◌∙◌, subst, arith}
use Rattle.std.specs.List.{list_any}
use Rattle.std.specs.Str.{bytes_eq}
use Rattle.std.proofs.lemmas.Bool.{and_parts}
use Rattle.std.proofs.lemmas.List.Elements.{All-append, All-cons, All-nil}
use Rattle.std.proofs.lemmas.Option.{none-some}
use Rattle.fc_syntax.specs.Limits.{standard_limits}
use Rattle.fc_syntax.specs.Measures.{alts_size, decls_size}
use Rattle.fc_syntax.specs.Tokens.{is_lower_name}
use Rattle.fc_syntax.specs.Tree.{Word}
use Rattle.fc_syntax.specs.declared.expr.Head.{Head}
use Rattle.fc_syntax.specs.declared.fault.Place.TheVariants as place
use Rattle.fc_log.specs.Grammar.{is_def_dead, is_fold}
use Rattle.fc_log.specs.Texts.{IsFormedStep, IsPath, of_part}
use Rattle.fc_log.specs.declared.log.Row.{Row}
use Rattle.fc_log.specs.declared.log.Row.TheVariants as row
use Rattle.fc_model.specs.Calling.{from_some}
use Rattle.fc_model.specs.Formed.{is_lower_word}
use Rattle.fc_model.specs.Kinding.{Modules, decls_at}
use Rattle.fc_model.specs.Nameless.{NExpr, NLocal, NVar, NLit, NApp, NLam, NLet, NCase, NCast, NCon, NPrim, NFail, NJoin, NJump, NAlts, NoNAlts, MoreNAlts, NBranch}
use Rattle.fc_model.specs.Nameless.{NDecl, NData, NNew, NFamily, NAxiom, NDef, NWrap, NModule, NModuleOf}
use Rattle.fc_model.proofs.Sameness.{bytes_eq_eq}
use Rattle.fc_rows.specs.Changing.{made}
use Rattle.fc_rows.specs.ChangingCoercions.{as_they_are}
use Rattle.fc_rows.specs.ResultLimits.{IsWithinLimits}
use Rattle.fc_rows.specs.Rewriting.{alternative_number, changed_decls, changed_module, changed_right, last_part, looked_at, rewritten, row_result}
use Rattle.fc_rows.specs.Shrinking.{alt_dead, heads_excluded, known, same_head, without_alternative}
use Rattle.fc_rows.specs.Surroundings.{Surroundings, outside}
use Rattle.fc_result_limits.proofs.Blank.{blank_alts, blank_decls}
use Rattle.fc_limits_at_places.specs.Fitting.{nexpr_size}
use Rattle.fc_limits_at_places.proofs.Unworded.{within_measures}
use Rattle.fc_formed.specs.FormedTrees.{AreFormedDecls, IsFormedModule}
use Rattle.fc_apply.proofs.CasesAround.{last_is}
use Rattle.fc_logs_formed.proofs.PartNumbers.{Below, IfMade, anything, by_part, either, expr_below, from_none, is_made, not_made, put, weaker, where_made}

-- A PLACE OF A MODULE

-- a word of a definition, and a place that is not empty
record IsPlace (most : ℕ) (Told : Type 0) (w : Word) (p : List ℕ) : Type 0 where
  lower : is_lower_name w ≡ true
  some : 0 < length p
  below : Below most Told p

same_word_lower : (v w : Word) → bytes_eq v w ≡ true → is_lower_word v ≡ true → is_lower_name w ≡ true
same_word_lower v w is lower = subst (λ x. is_lower_name x ≡ true) (bytes_eq_eq v w is) (and_parts (is_lower_name v) _ lower).0

-- a number that no part of a module within the limits has
abbrev most : ℕ
most = standard_limits.result_size + 3

module _ (row : Surroundings → NExpr → Option NExpr) (Told : Type 0) (tells : (s : Surroundings) (e : NExpr) → nexpr_size e + 3 ≤ most → IfMade Told (row s e)) where
  right_told : (s : Surroundings) (w : Word) (p : List ℕ) (e : NExpr) → is_lower_name w ≡ true → nexpr_size e + 3 ≤ most → IfMade (IsPlace most Told w p) (changed_right row as_they_are s p e)
  right_told s w [] e lower room = not_made
  right_told s w (zero ∷ p) e lower room = not_made
  right_told s w (suc zero ∷ p) e lower room =
      weaker _ (λ b. record { lower = lower; some = omega arith; below = put 1 p (omega arith) b }) (expr_below row most Told tells s p e room)
  right_told s w (suc (suc i) ∷ p) e lower room = not_made

  decls_told : (s : Surroundings) (w : Word) (p : List ℕ) (ds : List NDecl) → AreFormedDecls ds → decls_size (blank_decls ds) + 3 ≤ most
      → IfMade (IsPlace most Told w p) (changed_decls row as_they_are s w p ds)
  decls_told s w p [] formed room = not_made
  decls_told s w p (NDef n t e ∷ ds) formed room =
      either (bytes_eq n w) _ _ (λ is. by_part _ _ (λ told. told) (right_told s w p e (same_word_lower n w is formed.0.0) (omega (arith, room))))
      (by_part _ _ (λ told. told) (decls_told s w p ds formed.1 (omega (arith, room))))
  decls_told s w p (NWrap n t e ∷ ds) formed room =
      either (bytes_eq n w) _ _ (λ is. by_part _ _ (λ told. told) (right_told s w p e (same_word_lower n w is formed.0.0) (omega (arith, room))))
      (by_part _ _ (λ told. told) (decls_told s w p ds formed.1 (omega (arith, room))))
  decls_told s w p (NData n ps cs ∷ ds) formed room = by_part _ _ (λ told. told) (decls_told s w p ds formed.1 (omega (arith, room)))
  decls_told s w p (NNew n ps t con ∷ ds) formed room = by_part _ _ (λ told. told) (decls_told s w p ds formed.1 (omega (arith, room)))
  decls_told s w p (NFamily n ps k ∷ ds) formed room = by_part _ _ (λ told. told) (decls_told s w p ds formed.1 (omega (arith, room)))
  decls_told s w p (NAxiom n ps t u ∷ ds) formed room = by_part _ _ (λ told. told) (decls_told s w p ds formed.1 (omega (arith, room)))

  module_told : (xs : List NModule) (w : Word) (p : List ℕ) (n : NModule) → IsFormedModule n → IsWithinLimits n → IfMade (IsPlace most Told w p) (changed_module row as_they_are xs w p n)
  module_told xs w p (NModuleOf m imports exports hidden ds) formed within =
      let measures = (within_measures (NModuleOf m imports exports hidden ds)).0 within in
      by_part _ _ (λ told. told) (decls_told (outside (decls_at (NModuleOf m imports exports hidden ds ∷ xs))) w p ds formed.2 (omega (arith, measures.1)))

-- ALTERNATIVES THAT GO

without_below : (hs : List Head) (i : ℕ) (alts : NAlts) → IfMade (i < alts_size (blank_alts alts)) (without_alternative hs i alts)
without_below hs i NoNAlts = not_made
without_below hs zero (MoreNAlts (NBranch h bs b) rest) = either (list_any (same_head h) hs) _ _ (λ is. is_made (omega arith)) not_made
without_below hs (suc i) (MoreNAlts (NBranch h bs b) rest) = by_part _ _ (λ low. omega (arith, low)) (without_below hs i rest)

-- the row that drops an alternative makes something only where there is one of that number
alternative_below : (i : ℕ) (s : Surroundings) (e : NExpr) → nexpr_size e + 3 ≤ most → IfMade (i + 3 < most) (alt_dead i s e)
alternative_below i s (NLocal v) room = not_made
alternative_below i s (NVar n) room = not_made
alternative_below i s (NLit n) room = not_made
alternative_below i s (NApp f a) room = not_made
alternative_below i s (NLam b e) room = not_made
alternative_below i s (NLet r bs e) room = not_made
alternative_below i s (NCase e t u alts) room = by_part _ _ (λ low. omega (arith, room, low)) (without_below (heads_excluded (known s e)) i alts)
alternative_below i s (NCast e g) room = not_made
alternative_below i s (NCon n args) room = not_made
alternative_below i s (NPrim op es) room = not_made
alternative_below i s (NFail t) room = not_made
alternative_below i s (NJoin r t js e) room = not_made
alternative_below i s (NJump j args) room = not_made

-- a place that is not empty has a last number
record IsEnded (p : List ℕ) : Type 0 where
  before : List ℕ
  last : ℕ
  is : before ++ last ∷ [] ≡ p

is_ended : (i : ℕ) (p : List ℕ) → IsEnded (i ∷ p)
is_ended i [] = record { before = []; last = i; is = refl }
is_ended i (j ∷ p) = let e = is_ended j p in record { before = i ∷ e.before; last = e.last; is = ap (λ q. i ∷ q) e.is }

at_case : (p : List ℕ) (e : IsEnded p) → looked_at row.AltDead p ≡ made (λ i. (e.before, i)) (alternative_number e.last)
at_case p e = ap (from_some (λ q. made (λ i. (q.0, i)) (alternative_number q.1))) (ap last_part (sym e.is) ∙ last_is e.before e.last)

-- EACH ROW

module _ (xs : List NModule) (n : NModule) (formed : IsFormedModule n) (within : IsWithinLimits n) where
  abbrev declared : Modules
  declared = decls_at (n ∷ xs)

  abbrev looking : Row → List ℕ × ℕ → Word → Option NModule
  looking r q w = changed_module (row_result declared r q.1) as_they_are xs w q.0 n

  written : (p : List ℕ) → 0 < length p → All (λ i. i < most) p → IsPath p
  written p some each = record { some_part = some; each = λ i d low. omega (arith, each i d low) }

  -- a step of a row can be written
  abbrev IsWritten : Row → Type 0
  IsWritten r = (w : Word) (p : List ℕ) (k : NModule) → rewritten xs r w p n ≡ Some k → IsFormedStep (record { row = r; def = Some w; path = place.Parts p; answer = None })

  -- what is told by a row that looks at its place
  told_at : (r : Row) → ((p : List ℕ) → looked_at r p ≡ Some (p, 0)) → (Told : Type 0) → ((s : Surroundings) (e : NExpr) → IfMade Told (row_result declared r 0 s e))
      → (w : Word) (p : List ℕ) (k : NModule) → rewritten xs r w p n ≡ Some k → IsPlace most Told w p
  told_at r looks Told tells w p k h =
      let makes : looking r (p, 0) w ≡ Some k = sym (ap (from_some (λ q. looking r q w)) (looks p)) ∙ h in
      where_made _ k (module_told (row_result declared r 0) Told (λ s e room. tells s e) xs w p n formed within) makes

  -- a row that looks at its place
  plain : (r : Row) → is_def_dead r ≡ false → is_fold r ≡ false → ((p : List ℕ) → looked_at r p ≡ Some (p, 0)) → IsWritten r
  plain r here no_answer looks w p k h =
      let told = told_at r looks (Unit {0}) (λ s e. anything (row_result declared r 0 s e)) w p k h in
      of_part r w p here no_answer told.lower (written p told.some told.below.each)

  -- a row that makes nothing
  none : (r : Row) → ((s : Surroundings) (e : NExpr) → row_result declared r 0 s e ≡ None) → ((p : List ℕ) → looked_at r p ≡ Some (p, 0)) → IsWritten r
  none r nothing looks w p k h = absurd (told_at r looks ⊥ (λ s e. from_none (row_result declared r 0 s e) (nothing s e)) w p k h).below.told

  -- the row that looks at the case around the alternative of its place
  in_case : (w : Word) (before : List ℕ) (last : ℕ) (k : NModule) → from_some (λ q. looking row.AltDead q w) (made (λ i. (before, i)) (alternative_number last)) ≡ Some k
      → (is_lower_name w ≡ true) × All (λ i. i < most) (before ++ last ∷ [])
  in_case w before zero k h = absurd (none-some k h)
  in_case w before (suc zero) k h = absurd (none-some k h)
  in_case w before (suc (suc zero)) k h = absurd (none-some k h)
  in_case w before (suc (suc (suc i))) k h =
      let told = where_made _ k (module_told (row_result declared row.AltDead i) (i + 3 < most) (alternative_below i) xs w before n formed within) h in
      (told.lower, All-append (λ j. j < most) before _ told.below.each (All-cons (λ j. j < most) _ [] (omega (arith, told.below.told)) (All-nil (λ j. j < most))))

  of_alternative : IsWritten row.AltDead
  of_alternative w [] k h = absurd (none-some k h)
  of_alternative w (i ∷ p) k h =
      let e = is_ended i p in
      let told = in_case w e.before e.last k (sym (ap (from_some (λ q. looking row.AltDead q w)) (at_case (i ∷ p) e)) ∙ h) in
      of_part row.AltDead w (i ∷ p) refl refl told.0 (written (i ∷ p) (omega arith) (subst (All (λ j. j < most)) e.is told.1))

  pub is_written : (r : Row) → IsWritten r
  is_written row.Beta = plain row.Beta refl refl (λ p. refl)
  is_written row.LetDead = plain row.LetDead refl refl (λ p. refl)
  is_written row.LetAtom = plain row.LetAtom refl refl (λ p. refl)
  is_written row.LetOnce = plain row.LetOnce refl refl (λ p. refl)
  is_written row.CaseKnown = plain row.CaseKnown refl refl (λ p. refl)
  is_written row.CaseEvaluated = plain row.CaseEvaluated refl refl (λ p. refl)
  is_written row.CaseMerge = plain row.CaseMerge refl refl (λ p. refl)
  is_written row.AltDead = of_alternative
  is_written row.FailAbsorb = plain row.FailAbsorb refl refl (λ p. refl)
  is_written row.CastRefl = plain row.CastRefl refl refl (λ p. refl)
  is_written row.CastCast = plain row.CastCast refl refl (λ p. refl)
  is_written row.PushArgument = plain row.PushArgument refl refl (λ p. refl)
  is_written row.PushType = plain row.PushType refl refl (λ p. refl)
  is_written row.PushConstructor = plain row.PushConstructor refl refl (λ p. refl)
  is_written row.CoercionShorter = plain row.CoercionShorter refl refl (λ p. refl)
  is_written row.Fold = none row.Fold (λ s e. refl) (λ p. refl)
  is_written row.JoinDead = plain row.JoinDead refl refl (λ p. refl)
  is_written row.JoinOnce = plain row.JoinOnce refl refl (λ p. refl)
  is_written row.DefDead = none row.DefDead (λ s e. refl) (λ p. refl)
  is_written row.AppOfLet = plain row.AppOfLet refl refl (λ p. refl)
  is_written row.CaseOfLet = plain row.CaseOfLet refl refl (λ p. refl)
  is_written row.LetOfLet = plain row.LetOfLet refl refl (λ p. refl)
  is_written row.CastOfLet = plain row.CastOfLet refl refl (λ p. refl)
  is_written row.NameField = plain row.NameField refl refl (λ p. refl)
  is_written row.Unfold = plain row.Unfold refl refl (λ p. refl)
  is_written row.AppOfCase = plain row.AppOfCase refl refl (λ p. refl)
  is_written row.CaseOfCase = plain row.CaseOfCase refl refl (λ p. refl)
  is_written row.AltJoin = plain row.AltJoin refl refl (λ p. refl)
  is_written row.Contify = plain row.Contify refl refl (λ p. refl)
  is_written row.Split = plain row.Split refl refl (λ p. refl)
  is_written row.Special = plain row.Special refl refl (λ p. refl)
  is_written row.FloatOut = plain row.FloatOut refl refl (λ p. refl)
  is_written row.FloatIn = plain row.FloatIn refl refl (λ p. refl)
  is_written row.StrictLet = plain row.StrictLet refl refl (λ p. refl)
