-- What is known past some binders and then past others: stated once, for what is known of variables and of join points.
use Rattle.std.proofs.Common.{◌≡◌, ◌+◌, ℕ, false, List, [], ◌∷◌, length, refl, sym, ap, ◌∙◌, arith}
use Rattle.std.proofs.Math.Path.{fun_ext}
use Rattle.fc_syntax.specs.declared.expr.Bind as RustBind
use Rattle.fc_syntax.specs.declared.expr.JoinBind as RustJoin
use Rattle.fc_syntax.specs.declared.ty.Ref.{Ref}
use Rattle.fc_model.specs.Nameless.{NTVar, NGVar, NLocal, NBinder, NBValue, NBType, NBCo, NExpr, NJoin, NJoined, NoNJoins, MoreNJoins}
use Rattle.fc_model.specs.NamelessView.{nbinds_of, njoins_of}
use Rattle.fc_model.specs.Replacing.{Renaming, bind_count, join_count, past_a_coercion, past_a_type, past_a_value, themselves}
use Rattle.fc_model.proofs.RenamedItself.{each, itself, renaming}
use Rattle.fc_numbers.proofs.Counted.{binds_counted, joins_counted}
use Rattle.fc_rows.specs.Surroundings.{Known, Unknown, Is, IsNot, Point, NoPoint, PointOf, Surroundings, behind_binder, behind_binders, moved_known, moved_point, past_joins, past_values}
use Rattle.fc_subst.specs.Replacements.{renaming_of}
use Rattle.fc_subst.specs.declared.shift.Shift.{Shift}
use Rattle.fc_subst.proofs.Composed.{Composed, again}
use Rattle.fc_subst.proofs.Delayed.{renamings}
use Rattle.fc_known.specs.Counts.{counts, together}

-- WHAT MOVES

-- past some binders and then past others is past both at once, and past none is as it was
pub record Moves {K : Type 0} (moved : Renaming → K → K) : Type 0 where
  pub twice : (r s t : Renaming) → Composed renamings r s t → (k : K) → moved s (moved r k) ≡ moved t k
  pub never : (k : K) → moved themselves k ≡ k

known_twice : (r s t : Renaming) → Composed renamings r s t → (k : Known) → moved_known s (moved_known r k) ≡ moved_known t k
known_twice r s t both Unknown = refl
known_twice r s t both (Is e) = ap Is (again renamings r s t both e)
known_twice r s t both (IsNot hs) = refl

known_never : (k : Known) → moved_known themselves k ≡ k
known_never Unknown = refl
known_never (Is e) = ap Is (itself e)
known_never (IsNot hs) = refl

pub known_moves : Moves moved_known
known_moves = record { twice = known_twice; never = known_never }

-- a join point moves as in an expression that has it
abbrev having : List NBinder → NExpr → NExpr
having ps e = NJoin false (NTVar 0) (MoreNJoins (NJoined ps e) NoNJoins) (NLocal 0)

abbrev point_in : NExpr → Point
point_in (NJoin r t (MoreNJoins (NJoined ps e) rest) body) = PointOf ps e
point_in e = NoPoint

point_twice : (r s t : Renaming) → Composed renamings r s t → (k : Point) → moved_point s (moved_point r k) ≡ moved_point t k
point_twice r s t both NoPoint = refl
point_twice r s t both (PointOf ps e) = ap point_in (again renamings r s t both (having ps e))

point_never : (k : Point) → moved_point themselves k ≡ k
point_never NoPoint = refl
point_never (PointOf ps e) = ap point_in (itself (having ps e))

pub point_moves : Moves moved_point
point_moves = record { twice = point_twice; never = point_never }

-- PAST BINDERS THAT ARE COUNTED

-- past no binders
abbrev pub none : Shift
none = record { types = 0; coercions = 0; values = 0; joins = 0 }

-- with none of what is past
none_past : (λ i. i + 0) ≡ each
none_past = fun_ext (λ i. let h : i + 0 ≡ i = omega arith in h)

-- so many values, and join points
abbrev pub values_alone : ℕ → Shift
values_alone m = record { types = 0; coercions = 0; values = m; joins = 0 }

abbrev pub joins_alone : ℕ → Shift
joins_alone m = record { types = 0; coercions = 0; values = 0; joins = m }

module _ {K : Type 0} {moved : Renaming → K → K} (law : Moves moved) where
  pub moved_twice : (p q : Shift) (k : K) → moved (renaming_of q) (moved (renaming_of p) k) ≡ moved (renaming_of (together p q)) k
  moved_twice p q = law.twice (renaming_of p) (renaming_of q) (renaming_of (together p q)) (record {
    types = λ i. ap NTVar (omega arith);
    coercions = λ i. ap NGVar (omega arith);
    values = λ i. ap NLocal (omega arith);
    joins = λ i. omega arith;
  })

  pub moved_none : (k : K) → k ≡ moved (renaming_of none) k
  moved_none k = sym (ap (λ f. moved (renaming (λ i. NTVar (f i)) f f f) k) none_past ∙ law.never k)

  pub past_values_alone : (m : ℕ) (k : K) → moved (renaming_of (values_alone m)) k ≡ moved (past_values m) k
  past_values_alone m k = ap (λ f. moved (renaming (λ i. NTVar (f i)) f (λ i. i + m) f) k) none_past

  pub past_joins_alone : (m : ℕ) (k : K) → moved (renaming_of (joins_alone m)) k ≡ moved (past_joins m) k
  past_joins_alone m k = ap (λ f. moved (renaming (λ i. NTVar (f i)) f f (λ i. i + m)) k) none_past

  -- past a group, and past join points
  pub past_group : (bs : List (RustBind.Bind ℕ Ref)) (n : ℕ) (k x : K) → n ≡ length bs → k ≡ x → moved (renaming_of (values_alone n)) k ≡ moved (past_values (bind_count (nbinds_of bs))) x
  past_group bs n k x many known = past_values_alone n k ∙ ap (moved (past_values n)) known ∙ ap (λ m. moved (past_values m) x) (many ∙ sym (binds_counted bs))

  pub past_points : (js : List (RustJoin.JoinBind ℕ Ref)) (n : ℕ) (k x : K) → n ≡ length js → k ≡ x → moved (renaming_of (joins_alone n)) k ≡ moved (past_joins (join_count (njoins_of js))) x
  past_points js n k x many known = past_joins_alone n k ∙ ap (moved (past_joins n)) known ∙ ap (λ m. moved (past_joins m) x) (many ∙ sym (joins_counted js))

  -- PAST BINDERS, ONE AFTER THE OTHER

  abbrev pub past_one : NBinder → K → K
  past_one (NBValue t) k = moved past_a_value k
  past_one (NBType u) k = moved past_a_type k
  past_one (NBCo r t u) k = moved past_a_coercion k

  abbrev pub past_each : List NBinder → K → K
  past_each [] k = k
  past_each (b ∷ bs) k = past_each bs (past_one b k)

  pub all_at_once : (bs : List NBinder) (k : K) → past_each bs k ≡ moved (renaming_of (counts bs)) k
  all_at_once [] k = moved_none k
  all_at_once (NBValue t ∷ bs) k = all_at_once bs (moved past_a_value k)
      ∙ law.twice past_a_value (renaming_of (counts bs)) (renaming_of (counts (NBValue t ∷ bs))) (record {
        types = λ j. refl;
        coercions = λ j. refl;
        values = λ j. ap NLocal (omega arith);
        joins = λ j. refl;
      }) k
  all_at_once (NBType u ∷ bs) k = all_at_once bs (moved past_a_type k)
      ∙ law.twice past_a_type (renaming_of (counts bs)) (renaming_of (counts (NBType u ∷ bs))) (record {
        types = λ j. ap NTVar (omega arith);
        coercions = λ j. refl;
        values = λ j. refl;
        joins = λ j. refl;
      }) k
  all_at_once (NBCo r t u ∷ bs) k = all_at_once bs (moved past_a_coercion k)
      ∙ law.twice past_a_coercion (renaming_of (counts bs)) (renaming_of (counts (NBCo r t u ∷ bs))) (record {
        types = λ j. refl;
        coercions = λ j. ap NGVar (omega arith);
        values = λ j. refl;
        joins = λ j. refl;
      }) k

  -- what is looked up in surroundings, and is there behind a binder what it was outside of it
  module _ (look : Surroundings → K) (moves : (b : NBinder) (s : Surroundings) → look (behind_binder b s) ≡ past_one b (look s)) where
    look_behind : (bs : List NBinder) (s : Surroundings) → look (behind_binders bs s) ≡ past_each bs (look s)
    look_behind [] s = refl
    look_behind (b ∷ bs) s = look_behind bs (behind_binder b s) ∙ ap (past_each bs) (moves b s)

    pub looked_from_outside : (own : Shift) (bs : List NBinder) (s : Surroundings) (k : K) → own ≡ counts bs → k ≡ look s → moved (renaming_of own) k ≡ look (behind_binders bs s)
    looked_from_outside own bs s k is known =
        ap (moved (renaming_of own)) known ∙ ap (λ p. moved (renaming_of p) (look s)) is ∙ sym (look_behind bs s ∙ all_at_once bs (look s))
