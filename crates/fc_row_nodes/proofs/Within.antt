-- How much more terms one expression may be made of than another, alone and as a field of a constructor.
use Rattle.std.proofs.Common.{◌≡◌, ◌≤◌, ◌+◌, ◌*◌, ℕ, Bool, true, false, refl, ap, arith, List, [], ◌∷◌}
use Rattle.fc_syntax.specs.declared.expr.Head.{Head}
use Rattle.fc_syntax.specs.declared.expr.Head.TheVariants as head
use Rattle.fc_model.specs.Nameless.{NTy, NCo, NBinder, NBValue, NBType, NBCo, NAType}
use Rattle.fc_model.specs.Nameless.{NExpr, NLocal, NVar, NLit, NApp, NCast}
use Rattle.fc_model.specs.Replacing.{replaced_binder, replaced_binders, types_behind}
use Rattle.fc_model.proofs.Sameness.{false_true}
use Rattle.fc_rows.specs.Shrinking.{is_trivial}
use Rattle.fc_row_nodes.specs.Nodes.{alternative_count, counted_binders, field_extra, lambda_count, nodes}

-- FIELDS

abbrev pub field : NExpr → ℕ
field e = nodes e + field_extra (is_trivial e)

extra_at_most : (b : Bool) → field_extra b ≤ 2
extra_at_most true = omega arith
extra_at_most false = omega arith

pub nodes_in_field : (e : NExpr) → nodes e ≤ field e
nodes_in_field e = omega arith

pub field_at_most : (e : NExpr) → field e ≤ nodes e + 2
field_at_most e = omega (arith, extra_at_most (is_trivial e))

-- what is not trivial counts two more as a field
pub field_plain : (e : NExpr) → is_trivial e ≡ false → field e ≡ nodes e + 2
field_plain e plain = ap (λ b. nodes e + field_extra b) plain

-- what is trivial is one term
pub trivial_is_one : (e : NExpr) → is_trivial e ≡ true → nodes e ≡ 1
trivial_is_one (NLocal i) h = refl
trivial_is_one (NVar n) h = refl
trivial_is_one (NLit n) h = refl
trivial_is_one (NApp f (NAType t)) h = omega (arith, trivial_is_one f h)
trivial_is_one (NCast e g) h = trivial_is_one e h
trivial_is_one e h = false_true h

pub trivial_field : (e : NExpr) → is_trivial e ≡ true → field e ≤ 1
trivial_field e h = omega (arith, trivial_is_one e h, ap field_extra h)

-- MORE TERMS

-- at most k terms more, alone and as a field
pub record IsWithin (k : ℕ) (e f : NExpr) : Type 0 where
  pub whole : nodes f ≤ nodes e + k
  pub as_field : field f ≤ field e + k

pub is_itself : (e : NExpr) → IsWithin 0 e e
is_itself e = record { whole = omega arith; as_field = omega arith }

-- where the first is not trivial
pub within_plain : (k : ℕ) (e f : NExpr) → is_trivial e ≡ false → nodes f ≤ nodes e + k → IsWithin k e f
within_plain k e f plain h = record { whole = h; as_field = omega (arith, field_at_most f, field_plain e plain) }

pub within_more : (k l : ℕ) (e f : NExpr) → k ≤ l → IsWithin k e f → IsWithin l e f
within_more k l e f more w = record { whole = omega (arith, w.whole); as_field = omega (arith, w.as_field) }

pub within_type : (k : ℕ) (e f : NExpr) (t u : NTy) → IsWithin k e f → IsWithin k (NApp e (NAType t)) (NApp f (NAType u))
within_type k e f t u w = record { whole = omega (arith, w.whole); as_field = omega (arith, w.as_field) }

pub within_cast : (k : ℕ) (e f : NExpr) (g h : NCo) → IsWithin k e f → IsWithin k (NCast e g) (NCast f h)
within_cast k e f g h w = record { whole = w.whole; as_field = w.as_field }

-- BINDERS

pub lambda_kept : (s : ℕ → NTy) (b : NBinder) → lambda_count (replaced_binder s b) ≡ lambda_count b
lambda_kept s (NBValue t) = refl
lambda_kept s (NBType k) = refl
lambda_kept s (NBCo r t u) = refl

pub binders_kept : (s : ℕ → NTy) (bs : List NBinder) → counted_binders (replaced_binders s bs) ≡ counted_binders bs
binders_kept s [] = refl
binders_kept s (b ∷ bs) = omega (arith, lambda_kept s b, binders_kept (types_behind b s) bs)

pub alternative_kept : (h : Head) (s : ℕ → NTy) (bs : List NBinder) → alternative_count h (replaced_binders s bs) ≡ alternative_count h bs
alternative_kept head.Default s bs = refl
alternative_kept (head.Lit n) s bs = refl
alternative_kept (head.Con n) s bs = ap (λ c. 1 + 2 * c) (binders_kept s bs)
