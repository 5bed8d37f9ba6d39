use Rattle.std.proofs.Common.{rules, ◌≡◌, ◌+◌, ◌-◌, ◌<◌, [], ◌∷◌, ◌++◌, Some, sym, ap, ◌∙◌, arith, subst}
use Rattle.std.specs.Option.{option_map}
use Rattle.std.proofs.lemmas.Result.{IfOk-weaker}
use Rattle.fc_model.specs.NamelessView.{nexpr_of}
use Rattle.fc_parts.specs.Found.{found}
use Rattle.fc_rows.specs.Surroundings.{outside}
use Rattle.fc_search_laws.specs.Searching.{begun, found_within, part_count, part_place, searched}
use Rattle.fc_row_search.specs.Frames.{inner}
use Rattle.fc_row_search.specs.Spots.{applying_of, around_at, modules_of, part_at, part_of, parts_at, place_of, search_at}
use Rattle.fc_type_table.specs.TypeTables.{Grows}
use Rattle.fc_type_table.proofs.Numbers.{Grows-further, Grows-refl}
use Rattle.fc_row_search.proofs.Kept.{still_read}
use Rattle.fc_row_search.proofs.Told.{child_none, child_some, child_stands, later_found, later_here, nil_of, parts_step_found, parts_step_none, parts_step_past, rows_here, two_told, whole_found, whole_parts}
use Rattle.fc_row_search.proofs.walking.+searching.Goals as goal
use Rattle.fc_row_search.proofs.walking.+searching.Goals.{search_parts-in-Some+in_ok-found+in_default-2, search_parts-in_default}

pub search_framed-search_inside-requires : goal.search_framed-search_inside-requires
search_framed-search_inside-requires t c =
    let x = c.args.spot.now in
    let e = nexpr_of c.args.e.now in
    let f = nexpr_of c.args.inside.now in
    let around = c.in_ok-inner.ensures.stands (modules_of x.search.now) ∙ ap (inner c.args.number e) c.requires.outer in (
      omega arith,
      (
        c.in_ok-inner.ensures.counts,
        (
          ap (λ p. found (outside (modules_of x.search.now)) (place_of x.path.now ++ p) (nexpr_of x.search.now.right.now)) c.requires.part
              ∙ child_stands x c.args.room e c.args.number f c.requires.spot c.requires.inside
              ∙ ap (λ s. Some (s, f)) (sym around),
          c.requires.types,
        ),
      ),
    )

pub search_framed-returns-clause-found : goal.search_framed-returns-clause-found
search_framed-returns-clause-found t c =
    let x = c.args.spot.now in
    let n = c.args.room in
    let e = nexpr_of c.args.e.now in
    let f = nexpr_of c.args.inside.now in
    let from = c.args.from.now in
    let around = c.in_ok-inner.ensures.stands (modules_of x.search.now) ∙ ap (inner c.args.number e) c.requires.outer in
    let same =
    ap (λ p. part_at x n p from (around_at x c.in_ok-inner.inner) f) c.requires.part
    ∙ ap (λ s. part_at x n (part_place c.args.number e) from s f) around
    ∙ sym (child_some x n e c.args.number from f c.requires.inside) in
    IfOk-weaker c.search_inside.result (λ o. option_map applying_of o ≡ part_at x n (part_of c.args.part.now) from (around_at x c.in_ok-inner.inner) f) _ (λ o h. h ∙ same) c.search_inside.ensures.found

pub search_part-returns-in_default-clause-found : goal.search_part-returns-in_default-clause-found
search_part-returns-in_default-clause-found t c =
    sym (child_none c.args.spot.now c.args.room (nexpr_of c.args.e.now) c.args.number c.args.from.now (sym c.child.ensures ∙ ap (option_map (λ e. nexpr_of e.now)) c.in_default.is))

pub search_inside-returns-in_ok-deeper-in-Some-clause-found : goal.search_inside-returns-in_ok-deeper-in-Some-clause-found
search_inside-returns-in_ok-deeper-in-Some-clause-found t c =
    let x = c.args.spot.now in
    let n = c.args.room in
    let f = nexpr_of c.args.e.now in
    let s = around_at x c.args.around.now in
    let from = c.args.from.now in
    let i = c.args.part.now.first in
    let j = c.in-Some.second in
    let m = c.in_ok-deeper-in-Some.field-0 in
    let place : part_of c.args.part.now ≡ i ∷ j ∷ [] = ap (λ o. part_of (record c.args.part.now { second = o })) c.in-Some.is in
    let same = two_told x n f m i j from s f c.in_ok-deeper-in-Some.ensures ∙ ap (λ p. part_at x n p from s f) (sym place) in
    IfOk-weaker c.search_at-in-Some.result
    (λ o. option_map applying_of o ≡ found_within ((place_of x.path.now ++ i ∷ []) ++ j ∷ []) (searched (modules_of x.search.now) x.search.now.spare m from s f))
    (λ o. option_map applying_of o ≡ part_at x n (part_of c.args.part.now) from s f) (λ o h. h ∙ same) c.search_at-in-Some.ensures.found

pub search_parts-loop-number-init : goal.search_parts-loop-number-init
search_parts-loop-number-init t c =
    let e = nexpr_of c.args.e.now in
    let all : part_count e ≡ part_count e - 0 = omega arith in
    record { found = ap (λ m. parts_at c.args.spot.now c.args.room m 0 c.args.from.now e) all; grows = Grows-refl c.args.types.now }

pub search_at-returns-in-Some-clause-found : goal.search_at-returns-in-Some-clause-found
search_at-returns-in-Some-clause-found t c =
    let x = c.args.spot.now in
    let e = nexpr_of c.args.e.now in
    let none = nil_of c.args.from.now (sym c.is_empty.ensures ∙ c.if-is_empty.true) in
    sym (whole_found x c.in_ok-room.room e c.in_ok-room.ensures c.args.from.now (applying_of c.in-Some.found) none (sym c.in_ok-found.ensures.found ∙ ap (option_map applying_of) c.in-Some.is))

pub search_at-returns-in-None-clause-found : goal.search_at-returns-in-None-clause-found
search_at-returns-in-None-clause-found t c =
    let x = c.args.spot.now in
    let e = nexpr_of c.args.e.now in
    let none = nil_of c.args.from.now (sym c.is_empty.ensures ∙ c.if-is_empty.true) in
    let same = whole_parts x c.in_ok-room.room e c.in_ok-room.ensures c.args.from.now none (sym c.in_ok-found.ensures.found ∙ ap (option_map applying_of) c.in-None.is) in
    IfOk-weaker c.search_parts.result (λ o. option_map applying_of o ≡ parts_at x c.in_ok-room.room (part_count e) 0 c.args.from.now e) (λ o. option_map applying_of o ≡ search_at x c.args.from.now e)
    (λ o h. h ∙ sym same) c.search_parts.ensures.found

pub search_at-returns-in-Some-2-clause-found : goal.search_at-returns-in-Some-2-clause-found
search_at-returns-in-Some-2-clause-found t c =
    let x = c.args.spot.now in
    let e = nexpr_of c.args.e.now in
    let some : c.args.from.now ≡ [] → ⊥ = search rules in
    sym (later_found x c.in_ok-room.room e c.in_ok-room.ensures c.args.from.now (applying_of c.in-Some-2.found) some (sym c.in_ok-found-2.ensures.found ∙ ap (option_map applying_of) c.in-Some-2.is))

pub search_at-returns-in-None-2-clause-found : goal.search_at-returns-in-None-2-clause-found
search_at-returns-in-None-2-clause-found t c =
    let x = c.args.spot.now in
    let e = nexpr_of c.args.e.now in
    let some : c.args.from.now ≡ [] → ⊥ = search rules in
    let same = later_here x c.in_ok-room.room e c.in_ok-room.ensures c.args.from.now some (sym c.in_ok-found-2.ensures.found ∙ ap (option_map applying_of) c.in-None-2.is) in
    IfOk-weaker c.row_here-in-None-2.result (λ o. option_map applying_of o ≡ rows_here x 0 e) (λ o. option_map applying_of o ≡ search_at x c.args.from.now e) (λ o h. h ∙ sym same) c.row_here-in-None-2.ensures.found

pub search_parts-returns-in-Some-2-clause-found : goal.search_parts-returns-in-Some-2-clause-found
search_parts-returns-in-Some-2-clause-found t c =
    let x = c.args.spot.now in
    let n = c.args.room in
    let e = nexpr_of c.args.e.now in
    let k = c.loop-number.number in
    let from = c.loop-number.from.now in
    let begins = ap (λ p. begun p from) (sym c.in_ok-part.ensures) ∙ sym c.begun.ensures ∙ ap (option_map (λ p. p.now)) c.in-Some.is in
    sym (c.loop-number.invariant.found
    ∙ parts_step_found x n e (part_count e) k (omega (arith, c.loop-number-test.true, c.in_ok-count.ensures)) from c.in-Some.rest.now (applying_of c.in-Some-2.found) begins
    (sym c.in_ok-found.ensures.found ∙ ap (option_map applying_of) c.in-Some-2.is))

pub search_parts-loop-number-preserved : goal.search_parts-loop-number-preserved
search_parts-loop-number-preserved t c =
    let x = c.args.spot.now in
    let n = c.args.room in
    let e = nexpr_of c.args.e.now in
    let k = c.loop-number.number in
    let from = c.loop-number.from.now in
    let below : k < part_count e = omega (arith, c.loop-number-test.true, c.in_ok-count.ensures) in
    let asked = ap (λ p. begun p from) (sym c.in_ok-part.ensures) ∙ sym c.begun.ensures in
    elim c.match-begun.branch [
      | search_parts-in-Some+in_ok-found+in_default-2 w ↦ record {
        found =
            c.loop-number.invariant.found
            ∙ parts_step_none x n e (part_count e) k below from w.in-Some.rest.now (asked ∙ ap (option_map (λ p. p.now)) w.in-Some.is) (sym w.in_ok-found.ensures.found ∙ ap (option_map applying_of) w.in_default-2.is)
            ∙ ap (λ p. parts_at x n (part_count e - (k + 1)) (k + 1) p.now e) (sym w.from-is);
        grows = subst (Grows c.args.types.now) (sym w.types-is) (Grows-further c.args.types.now c.loop-number.types w.search_part.new.types c.loop-number.invariant.grows w.in_ok-found.ensures.grows);
      }
      | search_parts-in_default w ↦ record {
        found =
            c.loop-number.invariant.found
            ∙ parts_step_past x n e (part_count e) k below from (asked ∙ ap (option_map (λ p. p.now)) w.in_default.is)
            ∙ ap (λ p. parts_at x n (part_count e - (k + 1)) (k + 1) p.now e) (sym w.from-is);
        grows = subst (Grows c.args.types.now) (sym w.types-is) c.loop-number.invariant.grows;
      }
    ]

pub search_parts-returns-clause-found : goal.search_parts-returns-clause-found
search_parts-returns-clause-found t c =
    let x = c.args.spot.now in
    let e = nexpr_of c.args.e.now in
    let k = c.loop-number.number in
    let none : part_count e - k ≡ 0 = omega (arith, c.loop-number-test.false, c.in_ok-count.ensures) in
    sym (c.loop-number.invariant.found ∙ ap (λ m. parts_at x c.args.room m k c.loop-number.from.now e) none)

-- the table grows

pub search_at-search_parts-requires : goal.search_at-search_parts-requires
search_at-search_parts-requires t c =
    (omega (arith, c.in_ok-room.ensures), (c.requires.spot, still_read c.args.types.now c.row_here.new.types c.args.spot.now c.in_ok-found.ensures.grows c.requires.types))

pub search_at-row_here-requires-in-None-2-clause-types : goal.search_at-row_here-requires-in-None-2-clause-types
search_at-row_here-requires-in-None-2-clause-types t c = still_read c.args.types.now c.search_parts-else-is_empty.new.types c.args.spot.now c.in_ok-found-2.ensures.grows c.requires.types

pub search_parts-search_part-requires : goal.search_parts-search_part-requires
search_parts-search_part-requires t c =
    (omega arith, (c.requires.spot, (c.in_ok-part.ensures, still_read c.args.types.now c.loop-number.types c.args.spot.now c.loop-number.invariant.grows c.requires.types)))

pub search_parts-returns-in-Some-2-clause-grows : goal.search_parts-returns-in-Some-2-clause-grows
search_parts-returns-in-Some-2-clause-grows t c = Grows-further c.args.types.now c.loop-number.types c.search_part.new.types c.loop-number.invariant.grows c.in_ok-found.ensures.grows

pub search_parts-returns-clause-grows : goal.search_parts-returns-clause-grows
search_parts-returns-clause-grows t c = c.loop-number.invariant.grows
