-- By how much the numbers of one expression are lower than those of another, alone and as an argument of a constructor, and that what is made of something falls.
use Rattle.std.proofs.Common.{◌≡◌, ◌≤◌, ◌+◌, ℕ, Bool, true, false, arith, refl}
use Rattle.fc_model.specs.Nameless.{NArg, NATerm, NAType, NACo, NCo, NExpr, NApp, NCast}
use Rattle.fc_model.specs.Typing.{is_atom}
use Rattle.fc_rows.specs.Shrinking.{is_trivial}
use Rattle.fc_row_nodes.specs.Nodes.{field_extra}
use Rattle.fc_row_ends.proofs.Numbers.{Number, Nodes, Forms, Fields, Lets, Around, Casts, Level, further, count, as_field, extra, plain_extra}

-- EXTRAS

pub plain_most : (b : Bool) → plain_extra b ≤ 1
plain_most true = omega arith
plain_most false = omega arith

field_most : (b : Bool) → field_extra b ≤ 2
field_most true = omega arith
field_most false = omega arith

pub extra_most : (n : Number) (a t : Bool) → extra n a t ≤ extra n false false
extra_most Nodes a t = field_most t
extra_most Fields a t = plain_most a
extra_most n a t = omega arith

-- DROPS

-- each of the two is lower by c at least
pub record Drops (n : Number) (c : ℕ) (e f : NExpr) : Type 0 where
  pub whole : (l : Level n) → count n l f + c ≤ count n l e
  pub field : (l : Level n) → as_field n l f + c ≤ as_field n l e

-- where the first is no variable, and no variable at types that is cast
pub drops_plain : (n : Number) (c : ℕ) (e f : NExpr) → is_atom e ≡ false → is_trivial e ≡ false → ((l : Level n) → count n l f + c ≤ count n l e) → Drops n c e f
drops_plain n c e f plain more h = record { whole = h; field = λ l. omega (arith, h l, extra_most n (is_atom f) (is_trivial f), same) }
  where
    same : extra n (is_atom e) (is_trivial e) ≡ extra n false false
    same = cc

-- an extra that is that of something inside
pub extra_within : (n : Number) (c : ℕ) (e f : NExpr) → Drops n c e f → (l : Level n) → (count n l f + extra n false (is_trivial f)) + c ≤ count n l e + extra n false (is_trivial e)
extra_within Nodes c e f d l = d.field l
extra_within Forms c e f d l = omega (arith, d.whole l)
extra_within Fields c e f d l = omega (arith, d.whole l)
extra_within Lets c e f d l = omega (arith, d.whole l)
extra_within Around c e f d l = omega (arith, d.whole l)
extra_within Casts c e f d l = omega (arith, d.whole l)

pub at_the_head : (n : Number) (c : ℕ) (e f : NExpr) (a : NArg) → Drops n c e f → Drops n c (NApp e a) (NApp f a)
at_the_head n c e f (NATerm a) d = drops_plain n c _ _ refl refl (λ l. omega (arith, d.whole (further n l)))
at_the_head n c e f (NAType t) d = record { whole = λ l. omega (arith, d.whole (further n l)); field = λ l. omega (arith, extra_within n c e f d (further n l)) }
at_the_head n c e f (NACo g) d = drops_plain n c _ _ refl refl (λ l. omega (arith, d.whole (further n l)))

pub in_a_cast : (n : Number) (c : ℕ) (e f : NExpr) (g : NCo) → Drops n c e f → Drops n c (NCast e g) (NCast f g)
in_a_cast n c e f g d = record { whole = λ l. omega (arith, d.whole (further n l)); field = λ l. omega (arith, extra_within n c e f d (further n l)) }

-- FALLING

-- of what holds of the numbers with what they are lower by: one is lower, and none before it higher
pub data Falls (V : Number → ℕ → Type 0) : Type 0 where
  by_nodes : V Nodes 1 → Falls V
  by_forms : V Nodes 0 → V Forms 1 → Falls V
  by_fields : V Nodes 0 → V Forms 0 → V Fields 1 → Falls V
  by_lets : V Nodes 0 → V Forms 0 → V Fields 0 → V Lets 1 → Falls V
  by_around : V Nodes 0 → V Forms 0 → V Fields 0 → V Lets 0 → V Around 1 → Falls V
  by_casts : V Nodes 0 → V Forms 0 → V Fields 0 → V Lets 0 → V Around 0 → V Casts 1 → Falls V

pub falls_too : {V W : Number → ℕ → Type 0} → ((n : Number) (c : ℕ) → V n c → W n c) → Falls V → Falls W
falls_too go (by_nodes a) = by_nodes (go Nodes 1 a)
falls_too go (by_forms a b) = by_forms (go Nodes 0 a) (go Forms 1 b)
falls_too go (by_fields a b c) = by_fields (go Nodes 0 a) (go Forms 0 b) (go Fields 1 c)
falls_too go (by_lets a b c d) = by_lets (go Nodes 0 a) (go Forms 0 b) (go Fields 0 c) (go Lets 1 d)
falls_too go (by_around a b c d e) = by_around (go Nodes 0 a) (go Forms 0 b) (go Fields 0 c) (go Lets 0 d) (go Around 1 e)
falls_too go (by_casts a b c d e f) = by_casts (go Nodes 0 a) (go Forms 0 b) (go Fields 0 c) (go Lets 0 d) (go Around 0 e) (go Casts 1 f)
