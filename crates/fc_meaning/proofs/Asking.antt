-- What a type asks for: how many arguments, and the sorts of the terms and coercions among them; coercions are unlifted. Types that are
-- put in for its variables are of kinds without `#`, and change neither.
use Rattle.std.proofs.Common.{◌≡◌, ℕ, suc, true, List, [], ◌∷◌, ◌++◌, length, map, refl, ◌∙◌}
use Rattle.std.proofs.lemmas.Bool.{and_parts}
use Rattle.std.specs.List.{list_all}
use Rattle.fc_syntax.specs.declared.ty.Role.{Role}
use Rattle.fc_syntax.specs.Tree.{Kind}
use Rattle.fc_model.specs.Calling.{over_binders}
use Rattle.fc_model.specs.Erasure.{binder_sorts, sort_of_type}
use Rattle.fc_model.specs.Kinding.{Modules, is_lifted}
use Rattle.fc_model.specs.LintingRules.{ConHolds, holds_fields, holds_type, holds_coercion}
use Rattle.fc_model.specs.Nameless.{NTy, NTFun, NTForall, NTCoForall, NBinder, NBValue, NBType}
use Rattle.fc_model.specs.Substituting.{instantiated, substituted_type, type_for_innermost, types_below}
use Rattle.fc_model.specs.Terms.{Sort, Lifted, Unlifted}
use Rattle.fc_meaning.proofs.SortsOfTypes.{AreLifted, lifted_below, lifted_innermost, sort_of_substituted}

-- this many arguments, and of the terms and coercions among them these sorts
pub data Asks : NTy → ℕ → List Sort → Type 0 where
  asks_no_more : {t : NTy} → Asks t 0 []
  asks_term : {s r : NTy} {n : ℕ} {ss : List Sort} (o : Sort) → sort_of_type s ≡ o → Asks r n ss → Asks (NTFun s r) (suc n) (o ∷ ss)
  asks_type : {k : Kind} {r : NTy} {n : ℕ} {ss : List Sort} → is_lifted k ≡ true → Asks r n ss → Asks (NTForall k r) (suc n) ss
  asks_coercion : {o : Role} {t u r : NTy} {n : ℕ} {ss : List Sort} → Asks r n ss → Asks (NTCoForall o t u r) (suc n) (Unlifted ∷ ss)

-- types in place of variables change nothing of it
asks_substituted : {t : NTy} {n : ℕ} {ss : List Sort} → Asks t n ss → (s : ℕ → NTy) → AreLifted s → Asks (substituted_type s t) n ss
asks_substituted asks_no_more s l = asks_no_more
asks_substituted (asks_term {s = t} o same rest) s l = asks_term o (sort_of_substituted s l t ∙ same) (asks_substituted rest s l)
asks_substituted (asks_type k rest) s l = asks_type k (asks_substituted rest (types_below s) (lifted_below s l))
asks_substituted (asks_coercion rest) s l = asks_coercion (asks_substituted rest s l)

-- nor does a type in place of the variable of a `forall`
pub asks_instantiated : {t : NTy} {n : ℕ} {ss : List Sort} → Asks t n ss → (u : NTy) → sort_of_type u ≡ Lifted → Asks (instantiated u t) n ss
asks_instantiated asks u l = asks_substituted asks (type_for_innermost u) (lifted_innermost u l)

-- CONSTRUCTORS

-- fields are asked for, each of the sort of its type
asks_fields : (ts : List NTy) (r : NTy) → Asks (over_binders (map NBValue ts) r) (length (map NBValue ts)) (binder_sorts (map NBValue ts))
asks_fields [] r = asks_no_more
asks_fields (t ∷ ts) r = asks_term (sort_of_type t) refl (asks_fields ts r)

-- before them types and coercions
asks_binders : {ms : Modules} {ks : List Kind} {bs : List NBinder} {ts : List NTy} → ConHolds ms ks bs ts → (r : NTy)
    → Asks (over_binders (bs ++ map NBValue ts) r) (length (bs ++ map NBValue ts)) (binder_sorts (bs ++ map NBValue ts))
asks_binders (holds_fields {ts = ts} h) r = asks_fields ts r
asks_binders (holds_type l rest) r = asks_type l (asks_binders rest r)
asks_binders (holds_coercion k t u rest) r = asks_coercion (asks_binders rest r)

-- and before all the types of the parameters
asks_params : (ks : List Kind) → list_all is_lifted ks ≡ true → (bs : List NBinder) (r : NTy) → Asks (over_binders bs r) (length bs) (binder_sorts bs)
    → Asks (over_binders (map NBType ks ++ bs) r) (length (map NBType ks ++ bs)) (binder_sorts (map NBType ks ++ bs))
asks_params [] h bs r rest = rest
asks_params (k ∷ ks) h bs r rest = let p = and_parts (is_lifted k) (list_all is_lifted ks) h in asks_type p.0 (asks_params ks p.1 bs r rest)

-- a constructor asks for all these, and the sorts among them are those of its binders: its coercions and its fields
pub asks_constructor : {ms : Modules} {ks : List Kind} (params : List Kind) (bs : List NBinder) (ts : List NTy) (r : NTy) → list_all is_lifted params ≡ true → ConHolds ms ks bs ts
    → Asks (over_binders (map NBType params ++ (bs ++ map NBValue ts)) r) (length (map NBType params ++ (bs ++ map NBValue ts)))
    (binder_sorts (map NBType params ++ (bs ++ map NBValue ts)))
asks_constructor params bs ts r l con = asks_params params l (bs ++ map NBValue ts) r (asks_binders con r)
