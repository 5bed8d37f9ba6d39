-- The tests for sameness are equality.
use Rattle.std.proofs.Common.{◌≡◌, ◌↔◌, ℕ, true, false, ◌&&◌, Option, Some, None, bytes_eq, nat_eq, refl, sym, ap, ◌∙◌, arith, true≢false}
use Rattle.std.proofs.lemmas.Bool.{and_parts}
use Rattle.std.proofs.lemmas.Bool.Decides.{nat_tests}
use Rattle.std.proofs.lemmas.Slice.Eq.{bytes_eq-Decides}
use Rattle.fc_syntax.specs.declared.ty.Name.{Name}
use Rattle.fc_syntax.specs.declared.ty.Role.{Role}
use Rattle.fc_syntax.specs.declared.ty.Role.TheVariants.{N, R, P}
use Rattle.fc_syntax.specs.Tree.{Word, Kind, KStar, KHash, KArrow}
use Rattle.fc_model.specs.Kinding.{same_kind, same_role, same_word, same_name, same_type}
use Rattle.fc_model.specs.Nameless.{NTy, NTVar, NTCon, NTInt, NTApp, NTFun, NTForall, NTCoForall}

-- a test that fails is no test that holds
pub false_true : {X : Type 0} → false ≡ true → X
false_true h = absurd (true≢false (sym h))

pub nat_eq_refl : (i : ℕ) → nat_eq i i ≡ true
nat_eq_refl i = grind (arith, nat_tests)

pub nat_eq_eq : (i j : ℕ) → nat_eq i j ≡ true → i ≡ j
nat_eq_eq i j h = grind (arith, nat_tests)

pub bytes_eq_refl : (w : Word) → bytes_eq w w ≡ true
bytes_eq_refl w = grind (arith, bytes_eq-Decides w w)

pub bytes_eq_eq : (v w : Word) → bytes_eq v w ≡ true → v ≡ w
bytes_eq_eq v w h = grind (arith, bytes_eq-Decides v w)

pub same_kind_refl : (k : Kind) → same_kind k k ≡ true
same_kind_refl KStar = refl
same_kind_refl KHash = refl
same_kind_refl (KArrow a b) = rw (same_kind_refl a, same_kind_refl b) refl

pub same_kind_eq : (j k : Kind) → same_kind j k ≡ true → j ≡ k
same_kind_eq KStar KStar h = refl
same_kind_eq KHash KHash h = refl
same_kind_eq (KArrow a b) (KArrow c d) h =
    let p = and_parts (same_kind a c) (same_kind b d) h in
    ap (λ x. KArrow x b) (same_kind_eq a c p.0) ∙ ap (λ x. KArrow c x) (same_kind_eq b d p.1)
same_kind_eq j k h = false_true h

pub same_role_refl : (r : Role) → same_role r r ≡ true
same_role_refl N = refl
same_role_refl R = refl
same_role_refl P = refl

pub same_role_eq : (r s : Role) → same_role r s ≡ true → r ≡ s
same_role_eq N N h = refl
same_role_eq R R h = refl
same_role_eq P P h = refl
same_role_eq r s h = false_true h

pub same_word_refl : (w : Option Word) → same_word w w ≡ true
same_word_refl None = refl
same_word_refl (Some w) = bytes_eq_refl w

pub same_word_eq : (v w : Option Word) → same_word v w ≡ true → v ≡ w
same_word_eq None None h = refl
same_word_eq (Some v) (Some w) h = ap (λ x. Some x) (bytes_eq_eq v w h)
same_word_eq None (Some w) h = false_true h
same_word_eq (Some v) None h = false_true h

-- a name of this module and this word
abbrev pub name_of : Option Word → Word → Name
name_of m w = record { «module» = m; text = w }

pub same_name_refl : (n : Name) → same_name n n ≡ true
same_name_refl n = rw (same_word_refl n.module, bytes_eq_refl n.text) refl

pub same_name_eq : (m n : Name) → same_name m n ≡ true → m ≡ n
same_name_eq m n h =
    let p = and_parts (same_word m.module n.module) (bytes_eq m.text n.text) h in
    ap (λ x. name_of x m.text) (same_word_eq m.module n.module p.0) ∙ ap (λ x. name_of n.module x) (bytes_eq_eq m.text n.text p.1)

pub same_type_refl : (t : NTy) → same_type t t ≡ true
same_type_refl (NTVar i) = nat_eq_refl i
same_type_refl (NTCon n) = same_name_refl n
same_type_refl NTInt = refl
same_type_refl (NTApp a b) = rw (same_type_refl a, same_type_refl b) refl
same_type_refl (NTFun a b) = rw (same_type_refl a, same_type_refl b) refl
same_type_refl (NTForall k t) = rw (same_kind_refl k, same_type_refl t) refl
same_type_refl (NTCoForall r a b t) = rw (same_role_refl r, same_type_refl a, same_type_refl b, same_type_refl t) refl

pub same_type_eq : (s t : NTy) → same_type s t ≡ true → s ≡ t
same_type_eq (NTVar i) (NTVar j) h = ap (λ x. NTVar x) (nat_eq_eq i j h)
same_type_eq (NTCon m) (NTCon n) h = ap (λ x. NTCon x) (same_name_eq m n h)
same_type_eq NTInt NTInt h = refl
same_type_eq (NTApp a b) (NTApp c d) h =
    let p = and_parts (same_type a c) (same_type b d) h in
    ap (λ x. NTApp x b) (same_type_eq a c p.0) ∙ ap (λ x. NTApp c x) (same_type_eq b d p.1)
same_type_eq (NTFun a b) (NTFun c d) h =
    let p = and_parts (same_type a c) (same_type b d) h in
    ap (λ x. NTFun x b) (same_type_eq a c p.0) ∙ ap (λ x. NTFun c x) (same_type_eq b d p.1)
same_type_eq (NTForall j a) (NTForall k b) h =
    let p = and_parts (same_kind j k) (same_type a b) h in
    ap (λ x. NTForall x a) (same_kind_eq j k p.0) ∙ ap (λ x. NTForall k x) (same_type_eq a b p.1)
same_type_eq (NTCoForall r a b t) (NTCoForall s c d u) h =
    let p = and_parts (same_role r s && same_type a c) (same_type b d && same_type t u) h in
    let q = and_parts (same_role r s) (same_type a c) p.0 in
    let z = and_parts (same_type b d) (same_type t u) p.1 in
    ap (λ x. NTCoForall x a b t) (same_role_eq r s q.0) ∙ ap (λ x. NTCoForall s x b t) (same_type_eq a c q.1)
    ∙ ap (λ x. NTCoForall s c x t) (same_type_eq b d z.0) ∙ ap (λ x. NTCoForall s c d x) (same_type_eq t u z.1)
same_type_eq s t h = false_true h

pub same_type_of : {s t : NTy} → s ≡ t → same_type s t ≡ true
same_type_of {s = s} e = ap (λ x. same_type s x) (sym e) ∙ same_type_refl s

-- the test for sameness of types is their equality
pub same_type_is : (s t : NTy) → (same_type s t ≡ true) ↔ (s ≡ t)
same_type_is s t = (same_type_eq s t, λ e. same_type_of e)
