-- Binders that take words, and what is found below them.
use Rattle.std.proofs.Common.{◌≡◌, ◌<◌, ◌≤◌, ◌+◌, ◌++◌, ℕ, true, false, not, List, [], ◌∷◌, take, length, get_or, bytes_eq, if◌then◌else◌, refl, sym, ap, ◌∙◌, subst, arith}
use Rattle.std.specs.List.{list_all}
use Rattle.std.proofs.lemmas.Bool.{and_parts}
use Rattle.std.proofs.lemmas.List.{take_all}
use Rattle.std.proofs.lemmas.List.Folds.{list_all-append}
use Rattle.fc_syntax.specs.declared.ty.Role.{Role}
use Rattle.fc_syntax.specs.declared.expr.Binder as RustBinder
use Rattle.fc_syntax.specs.View.{binder_of, binders_of}
use Rattle.fc_syntax.specs.Tree.{Word, Kind, Ty, Binder, BValue, BType, BCo, Expr, ELam}
use Rattle.fc_model.specs.Formed.{binder_formed, is_empty_list, is_lower_word, named_words}
use Rattle.fc_model.specs.Nameless.{NTy, NBinder, NExpr}
use Rattle.fc_model.specs.Resolution.{Top, Locals, Value, Join, Words, WordSet, no_words, plus, plus_all, with_type, with_term, with_coercion, enter, enter_all, enter_values, enter_joins, is_new, with_binder}
use Rattle.fc_model.specs.ResolutionRules.{AreDistinct, no_words_left, one_word_more, ResolvesBinder, ResolvesBinders, ResolvesExpr, resolves_value_binder, resolves_type_binder, resolves_coercion_binder, resolves_no_binders, resolves_binders, resolves_lambda}
use Rattle.fc_model.specs.Worded.{WTy, WBinder, WExpr, bare_binder, bare_binders, bare_expr}
use Rattle.fc_model.proofs.Sameness.{false_true}
use Rattle.fc_formed.specs.FormedTrees.{bare_words}
use Rattle.fc_used_words.specs.Scoped.{Counts, HoldsTys, HoldsBinder, HoldsBinders, HoldsExpr, in_binder, in_binders, in_type, in_value, in_coercion, nothing_around}
use Rattle.fc_used_words.specs.Standing.{AreWithin, is_found, is_found_by, more_coercions, more_terms, more_types}
use Rattle.fc_used_words.proofs.Both.{below_binders, both_binder, both_binders, both_expr, both_tys}
use Rattle.fc_used_words.proofs.Collecting.{take_item}
use Rattle.fc_used_words.proofs.Keeping.{by_test}
use Rattle.fc_naming.specs.Groups.{IsGroup}
use Rattle.fc_naming.specs.Named.{AreLower, BelowUses, LamUses, IsNamedBelow, IsNamedExpr, IsNamedTy, IsWordFor, TakeWords, none_take, more_take, TakesWord, value_takes, type_takes, coercion_takes}
use Rattle.fc_naming.specs.Taken.{hint_of, more_words, space_of, words_of}
use Rattle.fc_naming.proofs.Lower.{and_keeps, both, coercion_lower, term_lower, type_lower}
use Rattle.fc_naming.proofs.Naming.{found_by, takes_coercion, takes_type, takes_value}

-- ONE BINDER

pub worded_value : {top : Top} {s : Locals} (w : Word) {v : Word} {a : WTy} {t : Ty} {c : WBinder} → c ≡ BValue w a → IsNamedTy top s a t → (taken more : Words) → IsWordFor (words_of (space_of c) taken) (hint_of c) v
    → more ≡ more_words (space_of c) v taken → TakesWord top s taken c (BValue v t) (with_term (Value v) s) more
worded_value {top = top} {s = s} w {v = v} {a = a} {t = t} {c = c} same p taken more =
    subst (λ (x : WBinder). IsWordFor (words_of (space_of x) taken) (hint_of x) v → more ≡ more_words (space_of x) v taken → TakesWord top s taken x (BValue v t) (with_term (Value v) s) more) (sym same)
    (λ (i : IsWordFor taken.terms w v) (is : more ≡ more_terms v taken). subst (TakesWord top s taken (BValue w a) (BValue v t) (with_term (Value v) s)) (sym is) (value_takes i.free i.lower p))

pub worded_type : {top : Top} {s : Locals} (w : Word) {v : Word} {k : Kind} {c : WBinder} → c ≡ BType w k → (taken more : Words) → IsWordFor (words_of (space_of c) taken) (hint_of c) v
    → more ≡ more_words (space_of c) v taken → TakesWord top s taken c (BType v k) (with_type v s) more
worded_type {top = top} {s = s} w {v = v} {k = k} {c = c} same taken more =
    subst (λ (x : WBinder). IsWordFor (words_of (space_of x) taken) (hint_of x) v → more ≡ more_words (space_of x) v taken → TakesWord top s taken x (BType v k) (with_type v s) more) (sym same)
    (λ (i : IsWordFor taken.types w v) (is : more ≡ more_types v taken). subst (TakesWord top s taken (BType w k) (BType v k) (with_type v s)) (sym is) (type_takes i.free i.lower))

pub worded_coercion : {top : Top} {s : Locals} (w : Word) {v : Word} {r : Role} {a b : WTy} {t u : Ty} {c : WBinder} → c ≡ BCo w r a b → IsNamedTy top s a t → IsNamedTy top s b u → (taken more : Words)
    → IsWordFor (words_of (space_of c) taken) (hint_of c) v → more ≡ more_words (space_of c) v taken → TakesWord top s taken c (BCo v r t u) (with_coercion v s) more
worded_coercion {top = top} {s = s} w {v = v} {r = r} {a = a} {b = b} {t = t} {u = u} {c = c} same p q taken more =
    subst (λ (x : WBinder). IsWordFor (words_of (space_of x) taken) (hint_of x) v → more ≡ more_words (space_of x) v taken → TakesWord top s taken x (BCo v r t u) (with_coercion v s) more) (sym same)
    (λ (i : IsWordFor taken.coercions w v) (is : more ≡ more_coercions v taken).
    subst (TakesWord top s taken (BCo w r a b) (BCo v r t u) (with_coercion v s)) (sym is) (coercion_takes i.free i.lower p q))

-- what is found below a binder without a word, is found below it with its word
module _ (top : Top) where
  word_expr : (s t : Locals) (taken more : Words) (c : WBinder) (b : Binder) → TakesWord top s taken c b t more → (cs : List NBinder) (l : Counts) (e : NExpr)
      → HoldsExpr (is_found_by top taken s) (in_binders cs (in_binder (bare_binder c) l)) e → HoldsExpr (is_found_by top more t) (in_binders cs l) e
  word_expr s _ taken _ _ _ (value_takes {v = v} free low p) cs l e h =
      let f = takes_value top taken s v free in both_expr _ _ _ _ f _ _ (below_binders _ _ _ _ f (in_value l) l refl cs) e h h
  word_expr s _ taken _ _ _ (type_takes {v = v} free low) cs l e h =
      let f = takes_type top taken s v free in both_expr _ _ _ _ f _ _ (below_binders _ _ _ _ f (in_type l) l refl cs) e h h
  word_expr s _ taken _ _ _ (coercion_takes {v = v} free low p q) cs l e h =
      let f = takes_coercion top taken s v free in both_expr _ _ _ _ f _ _ (below_binders _ _ _ _ f (in_coercion l) l refl cs) e h h

  word_tys : (s t : Locals) (taken more : Words) (c : WBinder) (b : Binder) → TakesWord top s taken c b t more → (cs : List NBinder) (l : Counts) (ts : List NTy)
      → HoldsTys (is_found_by top taken s) (in_binders cs (in_binder (bare_binder c) l)) ts → HoldsTys (is_found_by top more t) (in_binders cs l) ts
  word_tys s _ taken _ _ _ (value_takes {v = v} free low p) cs l ts h =
      let f = takes_value top taken s v free in both_tys _ _ _ _ f _ _ (below_binders _ _ _ _ f (in_value l) l refl cs) ts h h
  word_tys s _ taken _ _ _ (type_takes {v = v} free low) cs l ts h =
      let f = takes_type top taken s v free in both_tys _ _ _ _ f _ _ (below_binders _ _ _ _ f (in_type l) l refl cs) ts h h
  word_tys s _ taken _ _ _ (coercion_takes {v = v} free low p q) cs l ts h =
      let f = takes_coercion top taken s v free in both_tys _ _ _ _ f _ _ (below_binders _ _ _ _ f (in_coercion l) l refl cs) ts h h

  word_binders : (s t : Locals) (taken more : Words) (c : WBinder) (b : Binder) → TakesWord top s taken c b t more → (l : Counts) (cs : List NBinder)
      → HoldsBinders (is_found_by top taken s) (in_binder (bare_binder c) l) cs → HoldsBinders (is_found_by top more t) l cs
  word_binders s _ taken _ _ _ (value_takes {v = v} free low p) l cs h = both_binders _ _ _ _ (takes_value top taken s v free) (in_value l) l refl cs h h
  word_binders s _ taken _ _ _ (type_takes {v = v} free low) l cs h = both_binders _ _ _ _ (takes_type top taken s v free) (in_type l) l refl cs h h
  word_binders s _ taken _ _ _ (coercion_takes {v = v} free low p q) l cs h = both_binders _ _ _ _ (takes_coercion top taken s v free) (in_coercion l) l refl cs h h

  -- the binder with its word is that of the binder without
  word_resolves : (s t : Locals) (taken more : Words) (c : WBinder) (b : Binder) → TakesWord top s taken c b t more → HoldsBinder (is_found top s) nothing_around (bare_binder c) → ResolvesBinder top s b (bare_binder c)
  word_resolves s _ taken _ _ _ (value_takes free low p) h = resolves_value_binder (p.resolves h)
  word_resolves s _ taken _ _ _ (type_takes free low) h = resolves_type_binder
  word_resolves s _ taken _ _ _ (coercion_takes free low p q) h = resolves_coercion_binder (p.resolves h.0) (q.resolves h.1)

  word_enters : (s t : Locals) (taken more : Words) (c : WBinder) (b : Binder) → TakesWord top s taken c b t more → enter b s ≡ t
  word_enters s _ taken _ _ _ (value_takes free low p) = refl
  word_enters s _ taken _ _ _ (type_takes free low) = refl
  word_enters s _ taken _ _ _ (coercion_takes free low p q) = refl

  -- and of the text form, if what it was read from is
  pub word_formed : {s t : Locals} {taken more : Words} {c : WBinder} {b : Binder} → TakesWord top s taken c b t more → AreLower s → binder_formed bare_words c ≡ true → binder_formed named_words b ≡ true
  word_formed (value_takes free low p) l h = both low (p.formed l h)
  word_formed (type_takes free low) l h = low
  word_formed (coercion_takes free low p q) l h = both low (and_keeps (λ e. e) (and_keeps (p.formed l) (q.formed l)) h)

  pub word_lower : {s t : Locals} {taken more : Words} {c : WBinder} {b : Binder} → TakesWord top s taken c b t more → AreLower s → AreLower t
  word_lower (value_takes {v = v} free low p) l = term_lower (Value v) l low
  word_lower (type_takes free low) l = type_lower l low
  word_lower (coercion_takes free low p q) l = coercion_lower l low

  -- SETS

  is_free : (set taken : WordSet) (v : Word) → ((w : Word) → set w ≡ true → taken w ≡ true) → taken v ≡ false → not (set v) ≡ true
  is_free set taken v within free = by_test (set v) (λ h. false_true (sym free ∙ within v h)) (λ h. ap not h)

  plus_within : (set taken : WordSet) (v : Word) → ((w : Word) → set w ≡ true → taken w ≡ true) → (w : Word) → plus v set w ≡ true → plus v taken w ≡ true
  plus_within set taken v within w h =
      by_test (bytes_eq v w) (λ e. ap (λ b. if b then true else taken w) e)
      (λ e. ap (λ b. if b then true else taken w) e ∙ within w (sym (ap (λ b. if b then true else set w) e) ∙ h))

  word_new : (s t : Locals) (taken more : Words) (c : WBinder) (b : Binder) → TakesWord top s taken c b t more → (ws : Words) → AreWithin ws taken → is_new b ws ≡ true
  word_new s _ taken _ _ _ (value_takes {v = v} free low p) ws within = is_free ws.terms taken.terms v within.terms free
  word_new s _ taken _ _ _ (type_takes {v = v} free low) ws within = is_free ws.types taken.types v within.types free
  word_new s _ taken _ _ _ (coercion_takes {v = v} free low p q) ws within = is_free ws.coercions taken.coercions v within.coercions free

  word_within : (s t : Locals) (taken more : Words) (c : WBinder) (b : Binder) → TakesWord top s taken c b t more → (ws : Words) → AreWithin ws taken → AreWithin (with_binder b ws) more
  word_within s _ taken _ _ _ (value_takes {v = v} free low p) ws within = record { types = within.types; terms = plus_within ws.terms taken.terms v within.terms; coercions = within.coercions }
  word_within s _ taken _ _ _ (type_takes {v = v} free low) ws within = record { types = plus_within ws.types taken.types v within.types; terms = within.terms; coercions = within.coercions }
  word_within s _ taken _ _ _ (coercion_takes {v = v} free low p q) ws within = record { types = within.types; terms = within.terms; coercions = plus_within ws.coercions taken.coercions v within.coercions }

  -- SOME BINDERS

  pub words_expr : (s t : Locals) (taken more : Words) (cs : List WBinder) (bs : List Binder) → TakeWords top s taken cs bs t more → (e : NExpr)
      → HoldsExpr (is_found_by top taken s) (in_binders (bare_binders cs) nothing_around) e → HoldsExpr (is_found top t) nothing_around e
  words_expr s _ taken _ _ _ none_take e h = both_expr _ _ _ _ (found_by top taken s) nothing_around nothing_around refl e h h
  words_expr s _ taken _ _ _ (more_take {cs = cs} d rest) e h = words_expr _ _ _ _ _ _ rest e (word_expr _ _ _ _ _ _ d (bare_binders cs) nothing_around e h)

  pub words_tys : (s t : Locals) (taken more : Words) (cs : List WBinder) (bs : List Binder) → TakeWords top s taken cs bs t more → (ts : List NTy)
      → HoldsTys (is_found_by top taken s) (in_binders (bare_binders cs) nothing_around) ts → HoldsTys (is_found top t) nothing_around ts
  words_tys s _ taken _ _ _ none_take ts h = both_tys _ _ _ _ (found_by top taken s) nothing_around nothing_around refl ts h h
  words_tys s _ taken _ _ _ (more_take {cs = cs} d rest) ts h = words_tys _ _ _ _ _ _ rest ts (word_tys _ _ _ _ _ _ d (bare_binders cs) nothing_around ts h)

  pub words_enter : (s t : Locals) (taken more : Words) (cs : List WBinder) (bs : List Binder) → TakeWords top s taken cs bs t more → enter_all bs s ≡ t
  words_enter s _ taken _ _ _ none_take = refl
  words_enter s _ taken _ _ _ (more_take {bs = bs} d rest) = ap (enter_all bs) (word_enters _ _ _ _ _ _ d) ∙ words_enter _ _ _ _ _ _ rest

  pub words_resolve : (s t : Locals) (taken more : Words) (cs : List WBinder) (bs : List Binder) → TakeWords top s taken cs bs t more → (ws : Words) → AreWithin ws taken
      → HoldsBinders (is_found_by top taken s) nothing_around (bare_binders cs) → ResolvesBinders top s ws bs (bare_binders cs)
  words_resolve s _ taken _ _ _ none_take ws within h = resolves_no_binders
  words_resolve s _ taken _ _ _ (more_take {c = c} {b = b} {cs = cs} {bs = bs} d rest) ws within h =
      resolves_binders (word_new _ _ _ _ _ _ d ws within)
      (word_resolves _ _ _ _ _ _ d (both_binder _ _ _ _ (found_by top taken s) nothing_around nothing_around refl (bare_binder c) h.0 h.0))
      (subst (λ (z : Locals). ResolvesBinders top z (with_binder b ws) bs (bare_binders cs)) (sym (word_enters _ _ _ _ _ _ d))
      (words_resolve _ _ _ _ _ _ rest (with_binder b ws) (word_within _ _ _ _ _ _ d ws within) (word_binders _ _ _ _ _ _ d nothing_around (bare_binders cs) h.1)))

  pub words_formed : {s t : Locals} {taken more : Words} {cs : List WBinder} {bs : List Binder} → TakeWords top s taken cs bs t more → AreLower s → list_all (binder_formed bare_words) cs ≡ true
      → (list_all (binder_formed named_words) bs ≡ true) × AreLower t
  words_formed none_take l h = (refl, l)
  words_formed (more_take d rest) l h =
      let k = and_parts _ _ h in
      let r = words_formed rest (word_lower d l) k.1 in
      (both (word_formed d l k.0) r.0, r.1)

  words_none : {s t : Locals} {taken more : Words} {cs : List WBinder} {bs : List Binder} → TakeWords top s taken cs bs t more → is_empty_list cs ≡ true → is_empty_list bs ≡ true
  words_none none_take h = h
  words_none (more_take d rest) h = h

pub none_within : (ws : Words) → AreWithin no_words ws
none_within ws = record { types = λ w h. false_true h; terms = λ w h. false_true h; coercions = λ w h. false_true h }

pub named_below : {top : Top} {s t : Locals} {taken more : Words} {cs : List WBinder} {bs : List Binder} {e : WExpr} {f : Expr} → BelowUses top s (bare_binders cs) (bare_expr e) taken
    → TakeWords top s taken cs bs t more → IsNamedExpr top t e f → IsNamedBelow top s cs e bs f
named_below {top = top} {s = s} {t = t} {taken = taken} {more = more} {cs = cs} {bs = bs} {e = e} {f = f} u d n = record {
  binders = λ h g. words_resolve top s t taken more cs bs d no_words (none_within taken) (u.binders h);
  body = λ h g. subst (λ (z : Locals). ResolvesExpr top z f (bare_expr e)) (sym (words_enter top s t taken more cs bs d))
      (n.resolves (words_expr top s t taken more cs bs d (bare_expr e) (u.body g)));
  binders_formed = λ l. record { none = words_none top d; formed = λ h. (words_formed top d l h).0 };
  body_formed = λ l h. n.formed (words_formed top d l h).1;
}

pub named_lambda : {top : Top} {s t : Locals} {taken more : Words} {c : WBinder} {b : Binder} {e : WExpr} {f : Expr} → LamUses top s (bare_binder c) (bare_expr e) taken
    → TakesWord top s taken c b t more → IsNamedExpr top t e f → IsNamedExpr top s (ELam c e) (ELam b f)
named_lambda {top = top} {s = s} {t = t} {taken = taken} {more = more} {c = c} {b = b} {e = e} {f = f} u d n = record {
  resolves = λ h. resolves_lambda (word_resolves top s t taken more c b d h.0) (subst (λ (z : Locals). ResolvesExpr top z f (bare_expr e)) (sym (word_enters top s t taken more c b d))
      (n.resolves (words_expr top s t taken more (c ∷ []) (b ∷ []) (more_take d none_take) (bare_expr e) (u.body h.1))));
  formed = λ l h. let k = and_parts _ _ h in both (word_formed top d l k.0) (n.formed (word_lower top d l) k.1);
}

-- BINDERS THAT ARE NAMED IN A LOOP

-- what is taken is told by the locals, or is the same whatever they are
pub take_start : (top : Top) (s t : Locals) (taken : Locals → Words) (items : List (RustBinder.Binder ℕ)) (out : List (RustBinder.Binder Word)) → out ≡ [] → t ≡ s
    → TakeWords top s (taken s) (binders_of (take 0 items)) (binders_of out) t (taken t)
take_start top s t taken items out e same =
    subst (λ (bs : List (RustBinder.Binder Word)). TakeWords top s (taken s) [] (binders_of bs) t (taken t)) (sym e)
    (subst (λ (z : Locals). TakeWords top s (taken s) [] [] z (taken z)) (sym same) none_take)

take_end : {top : Top} {s t u : Locals} {taken more last : Words} {cs : List WBinder} {bs : List Binder} {c : WBinder} {b : Binder} → TakeWords top s taken cs bs t more → TakesWord top t more c b u last
    → TakeWords top s taken (cs ++ c ∷ []) (bs ++ b ∷ []) u last
take_end none_take d = more_take d none_take
take_end (more_take x rest) d = more_take x (take_end rest d)

binders_end : {L : Type 0} (items : List (RustBinder.Binder L)) (x : RustBinder.Binder L) → binders_of (items ++ x ∷ []) ≡ binders_of items ++ binder_of x ∷ []
binders_end [] x = refl
binders_end (y ∷ items) x = ap (λ z. binder_of y ∷ z) (binders_end items x)

pub take_step : (top : Top) (s t u : Locals) (taken more last : Words) (items : List (RustBinder.Binder ℕ)) (i : ℕ) (x : RustBinder.Binder ℕ) (out longer : List (RustBinder.Binder Word)) (y : RustBinder.Binder Word)
    → i < length items → x ≡ get_or items i x → TakeWords top s taken (binders_of (take i items)) (binders_of out) t more → TakesWord top t more (binder_of x) (binder_of y) u last
    → longer ≡ out ++ y ∷ [] → TakeWords top s taken (binders_of (take (i + 1) items)) (binders_of longer) u last
take_step top s t u taken more last items i x out longer y low is so_far d pushed =
    subst (λ (cs : List WBinder). TakeWords top s taken cs (binders_of longer) u last) (sym (ap binders_of (take_item items i x low is) ∙ binders_end (take i items) x))
    (subst (λ (bs : List Binder). TakeWords top s taken (binders_of (take i items) ++ binder_of x ∷ []) bs u last) (sym (ap binders_of pushed ∙ binders_end out y)) (take_end so_far d))

-- GROUPS

pub distinct_end : (taken : WordSet) (ws : List Word) (v : Word) → AreDistinct taken ws → plus_all ws taken v ≡ false → AreDistinct taken (ws ++ v ∷ [])
distinct_end taken [] v no_words_left free = one_word_more free no_words_left
distinct_end taken (w ∷ ws) v (one_word_more new rest) free = one_word_more new (distinct_end (plus w taken) ws v rest free)

pub plus_all_end : (taken : WordSet) (ws : List Word) (v : Word) → plus_all (ws ++ v ∷ []) taken ≡ plus v (plus_all ws taken)
plus_all_end taken [] v = refl
plus_all_end taken (w ∷ ws) v = plus_all_end (plus w taken) ws v

values_end : (s : Locals) (ws : List Word) (v : Word) → enter_values (ws ++ v ∷ []) s ≡ with_term (Value v) (enter_values ws s)
values_end s [] v = refl
values_end s (w ∷ ws) v = values_end (with_term (Value w) s) ws v

joins_end : (s : Locals) (ws : List Word) (v : Word) → enter_joins (ws ++ v ∷ []) s ≡ with_term (Join v) (enter_joins ws s)
joins_end s [] v = refl
joins_end s (w ∷ ws) v = joins_end (with_term (Join w) s) ws v

length_end : {X : Type 0} (xs : List X) (x : X) → length (xs ++ x ∷ []) ≡ length xs + 1
length_end [] x = refl
length_end (y ∷ xs) x = let r = length_end xs x in omega arith

pub group_start : {X : Type 0} (taken : WordSet) (items : List X) (words names : List Word) → words ≡ [] → names ≡ [] → IsGroup taken (take 0 items) words names taken
group_start taken items words names e f =
    subst (λ (ws : List Word). IsGroup taken (take 0 items) ws names taken) (sym e) (subst (λ (ns : List Word). IsGroup taken (take 0 items) [] ns taken) (sym f) (record {
      distinct = no_words_left;
      counted = refl;
      lower = refl;
      values = λ s. refl;
      joins = λ s. refl;
      taken_then = refl;
    }))

-- the same where what is taken is told by the words for look-ups
pub group_start_at : {X : Type 0} (taken : List Word → WordSet) (items : List X) (words names : List Word) → words ≡ [] → names ≡ [] → IsGroup (taken []) (take 0 items) words names (taken names)
group_start_at taken items words names e f =
    subst (λ (ns : List Word). IsGroup (taken []) (take 0 items) words ns (taken ns)) (sym f) (group_start (taken []) items words [] e refl)

group_end : {X : Type 0} {taken mid : WordSet} (items : List X) {words names : List Word} (x : X) {w : Word} (v : Word) → IsGroup taken items words names mid → IsWordFor mid w v
    → IsGroup taken (items ++ x ∷ []) (words ++ v ∷ []) (v ∷ names) (plus v mid)
group_end {taken = taken} items {words = words} x v g c = record {
  distinct = distinct_end taken words v g.distinct (ap (λ (z : WordSet). z v) (sym g.taken_then) ∙ c.free);
  counted = length_end words v ∙ ap (λ n. n + 1) g.counted ∙ sym (length_end items x);
  lower = list_all-append is_lower_word words (v ∷ []) ∙ both g.lower (both c.lower refl);
  values = λ s. ap (with_term (Value v)) (g.values s) ∙ sym (values_end s words v);
  joins = λ s. ap (with_term (Join v)) (g.joins s) ∙ sym (joins_end s words v);
  taken_then = ap (plus v) g.taken_then ∙ sym (plus_all_end taken words v);
}

pub group_step : {X : Type 0} (taken mid more : WordSet) (items : List X) (i : ℕ) (x : X) (words longer names further : List Word) {w : Word} (v : Word) → i < length items → x ≡ get_or items i x
    → IsGroup taken (take i items) words names mid → IsWordFor mid w v → more ≡ plus v mid → longer ≡ words ++ v ∷ [] → further ≡ v ∷ names → IsGroup taken (take (i + 1) items) longer further more
group_step {X = X} taken mid more items i x words longer names further v low is g c grown pushed added =
    subst (λ (xs : List X). IsGroup taken xs longer further more) (sym (take_item items i x low is))
    (subst (λ (ws : List Word). IsGroup taken (take i items ++ x ∷ []) ws further more) (sym pushed)
    (subst (λ (ns : List Word). IsGroup taken (take i items ++ x ∷ []) (words ++ v ∷ []) ns more) (sym added)
    (subst (λ (z : WordSet). IsGroup taken (take i items ++ x ∷ []) (words ++ v ∷ []) (v ∷ names) z) (sym grown) (group_end (take i items) x v g c))))

pub group_all : {X : Type 0} {taken more : WordSet} {words names : List Word} (items : List X) (i : ℕ) → length items ≤ i → IsGroup taken (take i items) words names more
    → IsGroup taken items words names more
group_all {X = X} {taken = taken} {more = more} {words = words} {names = names} items i h g = subst (λ (xs : List X). IsGroup taken xs words names more) (take_all i items h) g
