-- Which row applies in an expression, and where: the first that a search finds.
use Rattle.std.specs.Prelude.{ℕ, zero, suc, ◌+◌, Bool, nat_eq, nat_le, ◌&&◌, if◌then◌else◌, List, [], ◌∷◌, ◌++◌, length, Option, Some, None}
use Rattle.fc_log.specs.declared.log.Row.{Row}
use Rattle.fc_log.specs.declared.log.Row.TheVariants as row
use Rattle.fc_model.specs.Calling.{first_of, from_some}
use Rattle.fc_model.specs.Kinding.{Modules}
use Rattle.fc_model.specs.Nameless.{NArgs, NoNArgs, MoreNArgs, NExprs, NoNExprs, MoreNExprs, NJoins, NoNJoins, MoreNJoins, NJoined, NAlts, NoNAlts, MoreNAlts, NBranch}
use Rattle.fc_model.specs.Nameless.{NExpr, NLocal, NVar, NLit, NApp, NLam, NLet, NCase, NCast, NCon, NPrim, NFail, NJoin, NJump}
use Rattle.fc_model.specs.Replacing.{bind_count, join_count}
use Rattle.fc_parts.specs.Found.{found}
use Rattle.fc_rows.specs.Changing.{made}
use Rattle.fc_rows.specs.Surroundings.{Surroundings}
use Rattle.fc_limits_at_places.specs.Fitting.{nexpr_size}
use Rattle.fc_result_limits.proofs.Deep.{nexpr_depth}
use Rattle.fc_row_at_place.specs.Rows.{built_row}

-- WHAT IS ANSWERED

-- a row that applies, with the number of the alternative that it is for, the place where it does, and what it makes there; that none does; and that the search did
-- not go so deep
pub data Answered : Type 0 where
  Applies : (r : Row) (i : ℕ) (p : List ℕ) (e : NExpr) → Answered
  Quiet : Answered
  Beyond : Answered

-- LIMITS

-- an expression may stand in the place of another: it is no deeper than there is room, and no larger than the other by more than there is to spare
abbrev pub fits : ℕ → ℕ → NExpr → NExpr → Bool
fits room spare old new = nat_le (nexpr_depth new) room && nat_le (nexpr_size new) (nexpr_size old + spare)

-- a row, where what it makes may stand in the place of the expression
abbrev pub fitting : ℕ → ℕ → (Surroundings → NExpr → Option NExpr) → Surroundings → NExpr → Option NExpr
fitting room spare row s e = from_some (λ x. if fits room spare e x then Some x else None) (row s e)

-- ROWS AT AN EXPRESSION

-- all rows that are built, in the order in which they are tried, but alt-dead
abbrev pub rows_tried : List Row
rows_tried =
    row.LetDead ∷ row.LetAtom ∷ row.LetOnce ∷ row.Beta ∷ row.CaseKnown ∷ row.CaseEvaluated ∷ row.CaseMerge ∷ row.FailAbsorb ∷ row.CastRefl ∷ row.CastCast ∷ row.JoinDead ∷ row.JoinOnce
    ∷ row.AppOfLet ∷ row.CaseOfLet ∷ row.LetOfLet ∷ row.CastOfLet ∷ row.NameField ∷ []

abbrev pub alt_count : NAlts → ℕ
alt_count NoNAlts = 0
alt_count (MoreNAlts a rest) = suc (alt_count rest)

-- how many alternatives alt-dead may take away
abbrev pub alternatives_of : NExpr → ℕ
alternatives_of (NCase e t u alts) = alt_count alts
alternatives_of (NLocal v) = 0
alternatives_of (NVar n) = 0
alternatives_of (NLit n) = 0
alternatives_of (NApp f a) = 0
alternatives_of (NLam b e) = 0
alternatives_of (NLet r bs e) = 0
alternatives_of (NCast e g) = 0
alternatives_of (NCon n args) = 0
alternatives_of (NPrim op es) = 0
alternatives_of (NFail t) = 0
alternatives_of (NJoin r t js e) = 0
alternatives_of (NJump j args) = 0

module _ (ms : Modules) (room spare : ℕ) where
  -- what one row makes here
  abbrev pub applied : Row → ℕ → Surroundings → NExpr → Option Answered
  applied r i s e = made (λ x. Applies r i [] x) (fitting room spare (built_row ms r i) s e)

  abbrev pub first_row : List Row → Surroundings → NExpr → Option Answered
  first_row [] s e = None
  first_row (r ∷ rs) s e = first_of (applied r 0 s e) (first_row rs s e)

  -- of n alternatives from number i on, the first that goes
  abbrev pub first_dead : ℕ → ℕ → Surroundings → NExpr → Option Answered
  first_dead zero i s e = None
  first_dead (suc n) i s e = first_of (applied row.AltDead i s e) (first_dead n (suc i) s e)

  abbrev pub here : Surroundings → NExpr → Option Answered
  here s e = first_of (first_row rows_tried s e) (first_dead (alternatives_of e) 0 s e)

-- PARTS

abbrev pub arg_count : NArgs → ℕ
arg_count NoNArgs = 0
arg_count (MoreNArgs a rest) = suc (arg_count rest)

abbrev pub expr_count : NExprs → ℕ
expr_count NoNExprs = 0
expr_count (MoreNExprs e rest) = suc (expr_count rest)

-- the place of the right side of a join point, and of an alternative: its last part
abbrev pub join_place : ℕ → ℕ → NJoins → List ℕ
join_place n k NoNJoins = n ∷ []
join_place n zero (MoreNJoins (NJoined ps e) rest) = n ∷ length ps ∷ []
join_place n (suc k) (MoreNJoins j rest) = join_place n k rest

abbrev pub alt_place : ℕ → ℕ → NAlts → List ℕ
alt_place n k NoNAlts = n ∷ []
alt_place n zero (MoreNAlts (NBranch h bs e) rest) = n ∷ length bs ∷ []
alt_place n (suc k) (MoreNAlts a rest) = alt_place n k rest

-- how many parts of an expression are searched, and the place of the one of a number
abbrev pub part_count : NExpr → ℕ
part_count (NLocal v) = 0
part_count (NVar n) = 0
part_count (NLit n) = 0
part_count (NApp f a) = 2
part_count (NLam b e) = 1
part_count (NLet r bs e) = suc (bind_count bs)
part_count (NCase e t u alts) = suc (alt_count alts)
part_count (NCast e g) = 1
part_count (NCon n args) = arg_count args
part_count (NPrim op es) = expr_count es
part_count (NFail t) = 0
part_count (NJoin r t js e) = suc (join_count js)
part_count (NJump j args) = arg_count args

abbrev pub part_place : ℕ → NExpr → List ℕ
part_place k (NLocal v) = k ∷ []
part_place k (NVar n) = k ∷ []
part_place k (NLit n) = k ∷ []
part_place k (NApp f a) = k ∷ []
part_place k (NLam b e) = 1 ∷ []
part_place k (NLet r bs e) = if nat_eq k (bind_count bs) then k ∷ [] else k ∷ 1 ∷ []
part_place zero (NCase e t u alts) = 0 ∷ []
part_place (suc k) (NCase e t u alts) = alt_place (3 + k) k alts
part_place k (NCast e g) = 0 ∷ []
part_place k (NCon n args) = k ∷ []
part_place k (NPrim op es) = k ∷ []
part_place k (NFail t) = k ∷ []
part_place k (NJoin r t js e) = if nat_eq k (join_count js) then suc k ∷ [] else join_place (suc k) k js
part_place k (NJump j args) = k ∷ []

-- THE SEARCH

-- what is left of a place behind another
abbrev pub rest_behind : List ℕ → List ℕ → Option (List ℕ)
rest_behind [] q = Some q
rest_behind (i ∷ p) [] = None
rest_behind (i ∷ p) (j ∷ q) = if nat_eq i j then rest_behind p q else None

-- where the search of a part begins: a search that begins at no place begins at any part, another at the part that its place is in
abbrev pub begun : List ℕ → List ℕ → Option (List ℕ)
begun p [] = Some []
begun p (j ∷ q) = rest_behind p (j ∷ q)

-- a part in which the search does not begin is passed over
abbrev pub where_begun : {X : Type 0} → Option (List ℕ) → X → (List ℕ → X) → X
where_begun None x f = x
where_begun (Some rest) x f = f rest

-- what was found in a part, as of the whole; where nothing was, a search goes on
abbrev pub found_within : List ℕ → Option Answered → Option Answered
found_within p None = None
found_within p (Some (Applies r i q x)) = Some (Applies r i (p ++ q) x)
found_within p (Some Quiet) = None
found_within p (Some Beyond) = Some Beyond

-- where nothing was found, nothing is
abbrev pub or_quiet : Option Answered → Option Answered
or_quiet o = first_of o (Some Quiet)

-- rows are tried before parts are searched, and behind them where the search did not begin with them
abbrev pub in_order : List ℕ → Option Answered → Option Answered → Option Answered
in_order [] rows parts = or_quiet (first_of rows parts)
in_order (i ∷ p) rows parts = or_quiet (first_of parts rows)

-- A search of parts that are one number of a place deep, or two.
module _ (one two : List ℕ → Surroundings → NExpr → Option Answered) where
  -- what is asked at the place of a part
  abbrev pub into : List ℕ → List ℕ → Surroundings → NExpr → Option Answered
  into from [] = one from
  into from (i ∷ []) = one from
  into from (i ∷ j ∷ p) = two from

  -- what is found in the part of a number, and in it from a place on
  abbrev pub in_part : ℕ → List ℕ → Surroundings → NExpr → Option Answered
  in_part k from s e = found_within (part_place k e) (from_some (λ t. into from (part_place k e) t.0 t.1) (found s (part_place k e) e))

  -- of n parts from number k on, the first in which something is found
  abbrev pub first_part : ℕ → ℕ → List ℕ → Surroundings → NExpr → Option Answered
  first_part zero k from s e = None
  first_part (suc n) k from s e = where_begun (begun (part_place k e) from) (first_part n (suc k) from s e) (λ rest. first_of (in_part k rest s e) (first_part n (suc k) [] s e))

-- the first row that applies in an expression that may be so deep, from a place on, in a module that may grow by so much
module _ (ms : Modules) (spare : ℕ) where
  abbrev mutual
    pub searched : ℕ → List ℕ → Surroundings → NExpr → Option Answered
    searched zero from s e = Some Beyond
    searched (suc n) from s e = in_order from (here ms (suc n) spare s e) (first_part (searched n) (searched_below n) (part_count e) 0 from s e)

    -- one level further in
    pub searched_below : ℕ → List ℕ → Surroundings → NExpr → Option Answered
    searched_below zero from s e = Some Beyond
    searched_below (suc n) from s e = searched n from s e
