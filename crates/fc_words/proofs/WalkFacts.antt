-- A fact of the rows that each use of an argument keeps holds at the end of a walk that does not fail.
use Rattle.std.proofs.Common.{◌≡◌, ℕ, zero, suc, Bool, true, false, cond, List, [], ◌∷◌, length, drop, refl, fold, Option, Some, None}
use Rattle.std.specs.Prelude.{⊤, ◌&&◌, not, IfSome, encode_utf8, find, if◌then◌else◌, is_some, slice_get}
use Rattle.std.specs.Option.{option_map_or}
use Rattle.std.specs.Str.{bytes_eq, chars}
use Rattle.clap.specs.Faults.{bundle_fault, bundle_step_fault, stray_fault, flag_word_fault, flags_fault, long_fault, option_fault, other_fault, positional_fault, react_fault, settle_fault, short_fault, step_fault, turn_fault, use_fault, walk_fault, word_fault}
use Rattle.clap.specs.Kinds.{Kinds, or_else}
use Rattle.clap.specs.declared.error.kind.ErrorKind.TheVariants as kind
use Rattle.clap.specs.Lexer.{long_of, short_of}
use Rattle.clap.specs.Simple.{Shape}
use Rattle.clap.specs.Walk.{Held, Names, Outcome, Row, Rule, Step, Text, Waiting, Walk, after_flag, after_step, attached_value, has_long, has_short, arg_by_id, arg_by_index, arg_by_long, arg_by_short, bundle, bundle_met, bundle_step, done, flag_met, idle, is_pending, long_met, long_or_other, next, option, option_met, option_word, plain, plain_word, positional, pushed, reacted, refused, settled, settled_rows, short_met, short_or_plain, subcommand, subcommand_met, subcommand_or_other, takes_several, takes_values, to_positional, trailing, used, used_by_id, value, waits, walked, walked_from, word_met}

no_kind : {X : Type 0} (k : X) (ks : List X) → k ∷ ks ≡ [] → ⊥
no_kind k ks e = cc

-- where two steps do not fail, neither does
pub neither : (a b : Kinds) → or_else a b ≡ [] → (a ≡ []) × (b ≡ [])
neither [] b e = (refl, e)
neither (k ∷ ks) b e = absurd (no_kind k ks e)

-- a use of the argument that does not fail keeps the fact
abbrev pub Keeps : Bool → (List Row → Type 0) → Rule → Type 0
Keeps again Good a = (values : List Text) (rows : List Row) → use_fault again a values rows ≡ [] → Good rows → Good (used a values rows)

abbrev pub AllKeep : Bool → (List Row → Type 0) → List Rule → Type 0
AllKeep again Good [] = ⊤
AllKeep again Good (a ∷ rest) = Keeps again Good a × AllKeep again Good rest

module _ (s : Shape) (names : Names) (Good : List Row → Type 0) (keep : AllKeep s.args_override_self Good s.rules) where
  abbrev c : List Rule
  c = s.rules

  abbrev again : Bool
  again = s.args_override_self

  found_by : (b : Bool) (a : Rule) (o : Option Rule) → Keeps again Good a → IfSome o (Keeps again Good) → IfSome (cond b (Some a) o) (Keeps again Good)
  found_by true a o here more = here
  found_by false a o here more = more

  found : (p : Rule → Bool) (all : List Rule) → AllKeep again Good all → IfSome (find p all) (Keeps again Good)
  found p [] k = tt
  found p (a ∷ rest) k = found_by (p a) a (find p rest) k.0 (found p rest k.1)

  -- ONE USE

  use_by : (o : Option Rule) → IfSome o (Keeps again Good) → (values : List Text) (rows : List Row) → option_map_or (λ a. use_fault again a values rows) o [] ≡ []
      → Good rows → Good (used_by_id o values rows)
  use_by None k values rows e good = good
  use_by (Some a) k values rows e good = k values rows e good

  settle_by : (p : Option (Text × List Text)) (rows : List Row) → option_map_or (λ p. option_map_or (λ a. use_fault again a p.1 rows) (arg_by_id c p.0) []) p [] ≡ []
      → Good rows → Good (settled_rows c p rows)
  settle_by None rows e good = good
  settle_by (Some q) rows e good = use_by (arg_by_id c q.0) (found (λ a. bytes_eq a.id q.0) c keep) q.1 rows e good

  pub settle_keeps : (h : Held) → settle_fault c again h ≡ [] → Good h.rows → Good (settled c h).rows
  settle_keeps h e good = settle_by h.pending h.rows e good

  react_keeps : (a : Rule) → Keeps again Good a → (values : List Text) (h : Held) → react_fault c again a values h ≡ [] → Good h.rows → Good (reacted c a values h).rows
  react_keeps a k values h e good =
      let parts = neither (settle_fault c again h) (use_fault again a values (settled c h).rows) e in
      k values (settled c h).rows parts.1 (settle_keeps h parts.0 good)

  -- FLAGS

  option_keeps : (a : Rule) → Keeps again Good a → (v : Option Text) (h : Held) → option_fault c again a v h ≡ [] → Good h.rows → Good (option_met c a v h).0.rows
  option_keeps a k (Some v) h e good = react_keeps a k (v ∷ []) h e good
  option_keeps a k None h e good = settle_keeps h e good

  long_by : (b : Bool) (a : Rule) → Keeps again Good a → (v : Option Text) (h : Held)
      → (if b then option_fault c again a v h else (if is_some v then kind.TooManyValues ∷ [] else react_fault c again a [] h)) ≡ []
      → Good h.rows → Good (if b then option_met c a v h else flag_met c a v h).0.rows
  long_by true a k v h e good = option_keeps a k v h e good
  long_by false a k None h e good = react_keeps a k [] h e good
  long_by false a k (Some v) h e good = good

  long_keeps : (o : Option Rule) → IfSome o (Keeps again Good) → (v : Option Text) (h : Held) → long_fault c again o v h ≡ [] → Good h.rows → Good (long_met c o v h).0.rows
  long_keeps None k v h e good = good
  long_keeps (Some a) k v h e good = long_by (takes_values a) a k v h e good

  short_by : (b : Bool) (a : Rule) → Keeps again Good a → (rest : Text) (h : Held) (fails : Held → Kinds) (goes : Held → Held × Outcome)
      → ((i : Held) → fails i ≡ [] → Good i.rows → Good (goes i).0.rows)
      → (if b then option_fault c again a (attached_value rest) h else or_else (react_fault c again a [] h) (fails (reacted c a [] h))) ≡ []
      → Good h.rows → Good (if b then option_met c a (attached_value rest) h else goes (reacted c a [] h)).0.rows
  short_by true a k rest h fails goes more e good = option_keeps a k (attached_value rest) h e good
  short_by false a k rest h fails goes more e good =
      let parts = neither (react_fault c again a [] h) (fails (reacted c a [] h)) e in
      more (reacted c a [] h) parts.1 (react_keeps a k [] h parts.0 good)

  short_keeps : (o : Option Rule) → IfSome o (Keeps again Good) → (rest : Text) (h : Held) (fails : Held → Kinds) (goes : Held → Held × Outcome)
      → ((i : Held) → fails i ≡ [] → Good i.rows → Good (goes i).0.rows)
      → short_fault c again o rest h fails ≡ [] → Good h.rows → Good (short_met c o rest h goes).0.rows
  short_keeps None k rest h fails goes more e good = good
  short_keeps (Some a) k rest h fails goes more e good = short_by (takes_values a) a k rest h fails goes more e good

  flag_by : (o : Option ℕ) (k : ℕ) (flags : Text) (skip : ℕ) (so_far : Outcome) (h : Held)
      → ((flags : Text) (skip : ℕ) (so_far : Outcome) (i : Held) → flags_fault c again k flags skip i ≡ [] → Good i.rows → Good (bundle_met c k flags skip so_far i).0.rows)
      → bundle_step_fault c again o flags skip h (flags_fault c again k) ≡ [] → Good h.rows → Good (bundle_step c o flags skip so_far h (bundle_met c k)).0.rows
  flag_by None k flags skip so_far h more e good = good
  flag_by (Some x) k flags zero so_far h more e good =
      let rest : Text = drop (length (encode_utf8 x)) flags in
      short_keeps (arg_by_short c x) (found (λ a. not (is_some a.index) && has_short a x) c keep) rest h
      (flags_fault c again k rest 0) (bundle_met c k rest 0 done) (more rest 0 done) e good
  flag_by (Some x) k flags (suc skip) so_far h more e good = more (drop (length (encode_utf8 x)) flags) skip so_far h e good

  flags_keep : (k : ℕ) (flags : Text) (skip : ℕ) (so_far : Outcome) (h : Held) → flags_fault c again k flags skip h ≡ []
      → Good h.rows → Good (bundle_met c k flags skip so_far h).0.rows
  unfolding flags_fault bundle_met
  flags_keep zero flags skip so_far h e good = good
  flags_keep (suc k) flags skip so_far h e good = flag_by (slice_get (chars flags) 0) k flags skip so_far h (flags_keep k) e good

  -- WORDS

  option_word_keeps : (o : Option Rule) (id word : Text) (h : Held) → Good h.rows → Good (option_word o id word h).0.rows
  option_word_keeps None id word h good = good
  option_word_keeps (Some a) id word h good = good

  plain_keeps : (waiting : Waiting) (word : Text) (h : Held) → Good h.rows → Good (plain_word c waiting word h).0.rows
  plain_keeps idle word h good = good
  plain_keeps positional word h good = good
  plain_keeps (option id) word h good = option_word_keeps (arg_by_id c id) id word h good

  after_keeps : (waiting : Waiting) (word : Text) (h : Held) (o : Outcome) → Good h.rows → Good (after_flag c waiting word h o).0.rows
  after_keeps waiting word h done good = good
  after_keeps waiting word h (waits id) good = good
  after_keeps waiting word h plain good = plain_keeps waiting word h good
  after_keeps waiting word h refused good = plain_keeps waiting word h good

  short_word_keeps : (flags : Option Text) (waiting : Waiting) (word : Text) (h : Held) → option_map_or (λ flags. bundle_fault c again flags h) flags [] ≡ []
      → Good h.rows → Good (short_or_plain c waiting word flags h).0.rows
  short_word_keeps None waiting word h e good = plain_keeps waiting word h good
  short_word_keeps (Some flags) waiting word h e good =
      after_keeps waiting word (bundle c flags h).0 (bundle c flags h).1 (flags_keep (length flags) flags h.skip plain (record h { skip = 0 }) e good)

  flag_word_keeps : (l : Option (Text × Option Text)) (waiting : Waiting) (word : Text) (h : Held) → flag_word_fault c again l word h ≡ []
      → Good h.rows → Good (long_or_other c waiting word l h).0.rows
  flag_word_keeps None waiting word h e good = short_word_keeps (short_of word) waiting word h e good
  flag_word_keeps (Some p) waiting word h e good =
      after_keeps waiting word (long_met c (arg_by_long c p.0) p.1 h).0 (long_met c (arg_by_long c p.0) p.1 h).1
      (long_keeps (arg_by_long c p.0) (found (λ a. not (is_some a.index) && has_long a p.0) c keep) p.1 h e good)

  dashes_by : (b : Bool) (waiting : Waiting) (position : ℕ) (word : Text) (h : Held) → (if b then [] else flag_word_fault c again (long_of word) word h) ≡ []
      → Good h.rows → Good (if b then (h, trailing position) else long_or_other c waiting word (long_of word) h).0.rows
  dashes_by true waiting position word h e good = good
  dashes_by false waiting position word h e good = flag_word_keeps (long_of word) waiting word h e good

  other_keeps : (n : Option Text) (waiting : Waiting) (position : ℕ) (word : Text) (h : Held) → other_fault s n word h ≡ []
      → Good h.rows → Good (subcommand_or_other c n waiting position word h).0.rows
  other_keeps (Some name) waiting position word h e good = good
  other_keeps None waiting position word h e good = dashes_by (bytes_eq word (45 ∷ 45 ∷ [])) waiting position word h e good

  word_by : (b : Bool) (n : Option Text) (waiting : Waiting) (position : ℕ) (word : Text) (h : Held) → (if b then [] else other_fault s n word h) ≡ []
      → Good h.rows → Good (if b then (h, value) else subcommand_or_other c n waiting position word h).0.rows
  word_by true n waiting position word h e good = good
  word_by false n waiting position word h e good = other_keeps n waiting position word h e good

  -- STEPS

  held_by : (b : Bool) (id word : Text) (h : Held) → (if b then [] else settle_fault c again h) ≡ [] → Good h.rows → Good (pushed id word (if b then h else settled c h)).rows
  held_by true id word h e good = good
  held_by false id word h e good = settle_keeps h e good

  position_keeps : (o : Option Rule) (word : Text) (w : Walk) (h : Held) → option_map_or (λ a. positional_fault c again a h) o (stray_fault s) ≡ []
      → Good h.rows → Good (to_positional c o word w h).held.rows
  position_keeps None word w h e good = good
  position_keeps (Some a) word w h e good = held_by (is_pending a h.pending && takes_several a) a.id word h e good

  step_keeps : (w : Walk) (word : Text) (h : Held) (step : Step) → step_fault s w.position h step ≡ [] → Good h.rows → Good (after_step c word w h step).held.rows
  step_keeps w word h (next waiting) e good = good
  step_keeps w word h (trailing position) e good = good
  step_keeps w word h (subcommand name) e good = good
  step_keeps w word h value e good = position_keeps (arg_by_index c w.position) word w h e good

  turn_by : (p : Option (Text × List Text)) (w : Walk) (word : Text)
      → (if is_some p then [] else or_else (word_fault s names w.is_trailing w.waiting word w.held)
      (step_fault s w.position (word_met c names w.is_trailing w.waiting w.position word w.held).0 (word_met c names w.is_trailing w.waiting w.position word w.held).1)) ≡ []
      → Good w.held.rows → Good (walked_from c names p w word).held.rows
  turn_by (Some p) w word e good = good
  turn_by None w word e good =
      let met : Held × Step = word_met c names w.is_trailing w.waiting w.position word w.held in
      let parts = neither (word_fault s names w.is_trailing w.waiting word w.held) (step_fault s w.position met.0 met.1) e in
      step_keeps w word met.0 met.1 parts.1 (word_by w.is_trailing (subcommand_met names w.waiting word) w.waiting w.position word w.held parts.0 good)

  turn_keeps : (w : Walk) (word : Text) → turn_fault s names w word ≡ [] → Good w.held.rows → Good (walked c names w word).held.rows
  unfolding walked
  turn_keeps w word e good = turn_by w.stopped w word e good

  pub walk_keeps : (words : List Text) (w : Walk) → walk_fault s names w words ≡ [] → Good w.held.rows → Good (fold (walked c names) w words).held.rows
  unfolding walk_fault
  walk_keeps [] w e good = good
  walk_keeps (word ∷ rest) w e good =
      let parts = neither (turn_fault s names w word) (walk_fault s names (walked c names w word) rest) e in
      walk_keeps rest (walked c names w word) parts.1 (turn_keeps w word parts.0 good)
