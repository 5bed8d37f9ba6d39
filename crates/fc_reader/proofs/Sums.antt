-- Limits on declarations together and in part.
use Rattle.std.proofs.Common.{◌≡◌, ◌≤◌, ◌+◌, ℕ, Bool, true, false, ◌&&◌, nat_le, List, [], ◌∷◌, ◌++◌, arith, refl}
use Rattle.std.specs.List.{list_all}
use Rattle.fc_syntax.specs.Measures.{decl_size, decls_size}
use Rattle.fc_syntax.specs.Tree.{Decl}
use Rattle.fc_model.specs.ReadFaults.{are_within, counts_fit, depth_fits}

and_left : (p q : Bool) → (p && q) ≡ true → p ≡ true
and_left true q e = refl
and_left false q e = absurd cc

and_right : (p q : Bool) → (p && q) ≡ true → q ≡ true
and_right true q e = e
and_right false q e = absurd cc

and_both : {p q : Bool} → p ≡ true → q ≡ true → (p && q) ≡ true
and_both e f = cc

all_front : (f : Decl → Bool) (xs ys : List Decl) → list_all f (xs ++ ys) ≡ true → list_all f xs ≡ true
all_front f [] ys e = refl
all_front f (x ∷ xs) ys e = and_both (and_left (f x) (list_all f (xs ++ ys)) e) (all_front f xs ys (and_right (f x) (list_all f (xs ++ ys)) e))

all_last : (f : Decl → Bool) (xs : List Decl) (y : Decl) → list_all f (xs ++ y ∷ []) ≡ true → f y ≡ true
all_last f [] y e = and_left (f y) true e
all_last f (x ∷ xs) y e = all_last f xs y (and_right (f x) (list_all f (xs ++ y ∷ [])) e)

all_more : (f : Decl → Bool) (xs : List Decl) (y : Decl) → list_all f xs ≡ true → f y ≡ true → list_all f (xs ++ y ∷ []) ≡ true
all_more f [] y e h = and_both h refl
all_more f (x ∷ xs) y e h = and_both (and_left (f x) (list_all f xs) e) (all_more f xs y (and_right (f x) (list_all f xs) e) h)

size_front : (xs ys : List Decl) → decls_size xs ≤ decls_size (xs ++ ys)
size_front [] ys = omega arith
size_front (x ∷ xs) ys = omega (arith, size_front xs ys)

pub size_more : (xs : List Decl) (y : Decl) → decls_size (xs ++ y ∷ []) ≡ decls_size xs + decl_size y
size_more [] y = omega arith
size_more (x ∷ xs) y = omega (arith, size_more xs y)

le_true : (a b : ℕ) → a ≤ b → nat_le a b ≡ true
le_true a b h = grind arith

le_is : (a b : ℕ) → nat_le a b ≡ true → a ≤ b
le_is a b h = grind arith

-- no declaration is within the limits, however little room there is
pub nil_within : (room : ℕ) → are_within room [] ≡ true
nil_within room = le_true 0 room (omega arith)

pub front_within : (room : ℕ) (xs ys : List Decl) → are_within room (xs ++ ys) ≡ true → are_within room xs ≡ true
front_within room xs ys e =
    let depths = list_all depth_fits (xs ++ ys) in
    let counts = list_all counts_fit (xs ++ ys) in
    let size = nat_le (decls_size (xs ++ ys)) room in
    let h = and_left (depths && counts) size e in
    let s = le_is (decls_size (xs ++ ys)) room (and_right (depths && counts) size e) in
    and_both (and_both (all_front depth_fits xs ys (and_left depths counts h)) (all_front counts_fit xs ys (and_right depths counts h)))
    (le_true (decls_size xs) room (omega (arith, size_front xs ys, s)))

-- one declaration more, within the limits
pub more_within : (room : ℕ) (xs : List Decl) (y : Decl) (n : ℕ) → are_within room xs ≡ true → depth_fits y ≡ true → counts_fit y ≡ true
    → n ≡ decls_size xs + decl_size y → n ≤ room → are_within room (xs ++ y ∷ []) ≡ true
more_within room xs y n e d c m l =
    let depths = list_all depth_fits xs in
    let counts = list_all counts_fit xs in
    let h = and_left (depths && counts) (nat_le (decls_size xs) room) e in
    and_both (and_both (all_more depth_fits xs y (and_left depths counts h) d) (all_more counts_fit xs y (and_right depths counts h) c))
    (le_true (decls_size (xs ++ y ∷ [])) room (omega (arith, size_more xs y, m, l)))

pub last_depth : (room : ℕ) (xs : List Decl) (y : Decl) → are_within room (xs ++ y ∷ []) ≡ true → depth_fits y ≡ true
last_depth room xs y e =
    let depths = list_all depth_fits (xs ++ y ∷ []) in
    let counts = list_all counts_fit (xs ++ y ∷ []) in
    all_last depth_fits xs y (and_left depths counts (and_left (depths && counts) (nat_le (decls_size (xs ++ y ∷ [])) room) e))

pub last_counts : (room : ℕ) (xs : List Decl) (y : Decl) → are_within room (xs ++ y ∷ []) ≡ true → (counts_fit y && nat_le (decls_size (xs ++ y ∷ [])) room) ≡ true
last_counts room xs y e =
    let depths = list_all depth_fits (xs ++ y ∷ []) in
    let counts = list_all counts_fit (xs ++ y ∷ []) in
    let size = nat_le (decls_size (xs ++ y ∷ [])) room in
    and_both (all_last counts_fit xs y (and_right depths counts (and_left (depths && counts) size e))) (and_right (depths && counts) size e)
