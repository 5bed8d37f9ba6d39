-- Which lets are not of one binding, and which alternatives are no single default.
use Rattle.std.proofs.Common.{◌≡◌, ◌≢◌, ℕ, refl, sym, ap, ◌∙◌, Bool, true, false, Some, None, List, [], ◌∷◌, length, get_or, arith}
use Rattle.fc_syntax.specs.declared.ty.Ref.{Ref}
use Rattle.fc_syntax.specs.declared.expr.Alt.{Alt}
use Rattle.fc_syntax.specs.declared.expr.Bind.{Bind}
use Rattle.fc_syntax.specs.declared.expr.Binder.{Binder}
use Rattle.fc_syntax.specs.declared.expr.Head.{Head}
use Rattle.fc_syntax.specs.declared.expr.Head.TheVariants as head
use Rattle.fc_model.specs.Nameless.{NAlt, NAlts, NoNAlts, MoreNAlts, NBranch, NBinder, NExpr, NLet}
use Rattle.fc_model.specs.NamelessView.{nalts_of, nbinders_of, nbinds_of}
use Rattle.fc_forms.specs.Forms.{binding_parts, default_body, single_binding_parts}
use Rattle.fc_forms.proofs.Parts.{binding_form}

-- LETS

not_single : (r : Bool) (bs : List (Bind ℕ Ref)) (b : NExpr) → length bs ≢ 1 → None ≡ single_binding_parts (NLet r (nbinds_of bs) b)
not_single true bs b other = refl
not_single false [] b other = refl
not_single false (x ∷ []) b other = absurd (other refl)
not_single false (x ∷ y ∷ rest) b other = refl

pub no_single_binding : (e : NExpr) (r : Bool) (bs : List (Bind ℕ Ref)) (b : NExpr) → Some (r, nbinds_of bs, b) ≡ binding_parts e → length bs ≢ 1 → None ≡ single_binding_parts e
no_single_binding e r bs b parts other = not_single r bs b other ∙ ap single_binding_parts (sym (binding_form e _ parts))

-- ALTERNATIVES

more_alternatives : (h : Head) (bs : List NBinder) (e : NExpr) (a : NAlt) (rest : NAlts) → None ≡ default_body (MoreNAlts (NBranch h bs e) (MoreNAlts a rest))
more_alternatives head.Default [] e a rest = refl
more_alternatives head.Default (b ∷ bs) e a rest = refl
more_alternatives (head.Lit n) bs e a rest = refl
more_alternatives (head.Con n) bs e a rest = refl

pub no_only_alternative : (alts : List (Alt ℕ Ref)) → length alts ≢ 1 → None ≡ default_body (nalts_of alts)
no_only_alternative [] other = refl
no_only_alternative (x ∷ []) other = absurd (other refl)
no_only_alternative (x ∷ y ∷ rest) other = more_alternatives x.head _ _ _ _

no_default : (h : Head) (bs : List (Binder ℕ)) (e : NExpr) → (h ≡ head.Default → bs ≡ [] → ⊥) → None ≡ default_body (MoreNAlts (NBranch h (nbinders_of bs) e) NoNAlts)
no_default head.Default [] e other = absurd (other refl refl)
no_default head.Default (b ∷ bs) e other = refl
no_default (head.Lit n) bs e other = refl
no_default (head.Con n) bs e other = refl

pub no_default_alone : (alts : List (Alt ℕ Ref)) (a : Alt ℕ Ref) → length alts ≡ 1 → a ≡ get_or alts 0 a → (a.head ≡ head.Default → a.binders ≡ [] → ⊥) → None ≡ default_body (nalts_of alts)
no_default_alone [] a one is other = absurd (omega arith)
no_default_alone (x ∷ []) a one is other = no_default x.head x.binders _ (λ h k. other (ap (λ y. y.head) is ∙ h) (ap (λ y. y.binders) is ∙ k))
no_default_alone (x ∷ y ∷ rest) a one is other = absurd (omega arith)
