-- Modules by their names, and those of them that imports reach.
use Rattle.std.proofs.Common.{◌≡◌, ◌∙◌, Bool, true, false, ◌||◌, if◌then◌else◌, List, [], ◌∷◌, ◌++◌, refl, sym, ap}
use Rattle.std.proofs.lemmas.Bool.{and_from, and_parts, or_left, or_parts, or_right}
use Rattle.std.proofs.lemmas.List.Folds.{list_any-append}
use Rattle.std.specs.List.{AllByRecursion as Each, list_all}
use Rattle.std.specs.Str.{bytes_eq}
use Rattle.fc_syntax.specs.Tree.{Word}
use Rattle.fc_model.specs.Kinding.{decls_of_module}
use Rattle.fc_model.specs.Nameless.{NModule, NModuleOf}
use Rattle.fc_model.specs.Planning.{is_among}
use Rattle.fc_model.proofs.Sameness.{bytes_eq_eq, bytes_eq_refl, false_true}
use Rattle.fc_reaching.specs.Numbering.{word_of}
use Rattle.fc_rows.specs.Telling.{reached_among}
use Rattle.fc_set_types.specs.SetsReplayed.{is_one_of}

-- TESTS

pub decided : {Z : Type 0} (b : Bool) → (b ≡ true → Z) → (b ≡ false → Z) → Z
decided true p q = p refl
decided false p q = q refl

pub by_or : {Z : Type 0} (b c : Bool) → (b || c) ≡ true → (b ≡ true → Z) → (c ≡ true → Z) → Z
by_or true c h p q = p refl
by_or false c h p q = q h

-- a test that is not passed where another is not either
not_passed : (b c : Bool) → (b ≡ true → c ≡ true) → c ≡ false → b ≡ false
not_passed true c more h = false_true (sym h ∙ more refl)
not_passed false c more h = refl

pub all_weaker : (f g : Word → Bool) → ((w : Word) → f w ≡ true → g w ≡ true) → (ws : List Word) → list_all f ws ≡ true → list_all g ws ≡ true
all_weaker f g weaker [] h = refl
all_weaker f g weaker (w ∷ ws) h = let p = and_parts (f w) (list_all f ws) h in and_from (g w) (list_all g ws) (weaker w p.0) (all_weaker f g weaker ws p.1)

-- WORDS

pub among_first : (ws vs : List Word) (w : Word) → is_among ws w ≡ true → is_among (ws ++ vs) w ≡ true
among_first ws vs w h = list_any-append (λ v. bytes_eq v w) ws vs ∙ or_left (is_among ws w) (is_among vs w) h

pub among_second : (ws vs : List Word) (w : Word) → is_among vs w ≡ true → is_among (ws ++ vs) w ≡ true
among_second ws vs w h = list_any-append (λ v. bytes_eq v w) ws vs ∙ or_right (is_among ws w) (is_among vs w) h

-- among more words are the same behind others
among_more : (vs ws us : List Word) → ((u : Word) → is_among vs u ≡ true → is_among ws u ≡ true) → (u : Word) → is_among (vs ++ us) u ≡ true → is_among (ws ++ us) u ≡ true
among_more vs ws us more u h =
    by_or (is_among vs u) (is_among us u) (sym (list_any-append (λ v. bytes_eq v u) vs us) ∙ h) (λ p. among_first ws us u (more u p)) (among_second ws us u)

-- of words that all pass each does
pub all_at : (f : Word → Bool) (ws : List Word) (w : Word) → list_all f ws ≡ true → is_among ws w ≡ true → f w ≡ true
all_at f [] w h a = false_true a
all_at f (v ∷ vs) w h a =
    let p = and_parts (f v) (list_all f vs) h in
    by_or (bytes_eq v w) (is_among vs w) a (λ e. ap f (sym (bytes_eq_eq v w e)) ∙ p.0) (all_at f vs w p.1)

-- words that are all among others
pub all_listed : (f : Word → Bool) (ws : List Word) → ((w : Word) → is_among ws w ≡ true → f w ≡ true) → list_all f ws ≡ true
all_listed f [] h = refl
all_listed f (w ∷ ws) h =
    and_from (f w) (list_all f ws) (h w (or_left (bytes_eq w w) (is_among ws w) (bytes_eq_refl w))) (all_listed f ws (λ v p. h v (or_right (bytes_eq w v) (is_among ws v) p)))

-- NAMES

-- no two of these have one name
abbrev pub HaveOwnNames : List NModule → Type 0
HaveOwnNames [] = Unit {0}
HaveOwnNames (x ∷ xs) = (is_one_of xs (word_of x) ≡ false) × HaveOwnNames xs

-- the name of another is none of these
pub other_name : (xs : List NModule) (m w : Word) → is_one_of xs m ≡ false → is_one_of xs w ≡ true → bytes_eq m w ≡ false
other_name xs m w new one = decided (bytes_eq m w) (λ e. false_true (sym new ∙ ap (is_one_of xs) (bytes_eq_eq m w e) ∙ one)) (λ e. e)

-- of no name, nothing is declared
pub nothing_declared : (xs : List NModule) (w : Word) → is_one_of xs w ≡ false → decls_of_module xs w ≡ []
nothing_declared [] w h = refl
nothing_declared (NModuleOf m imports exports hidden ds ∷ xs) w h =
    let p = or_parts (bytes_eq m w) (is_one_of xs w) h in
    ap (λ b. if b then ds else decls_of_module xs w) p.0 ∙ nothing_declared xs w p.1

pub names_differ : (xs : List NModule) (w : Word) → is_one_of xs w ≡ false → Each (λ x. bytes_eq (word_of x) w ≡ false) xs
names_differ [] w h = tt
names_differ (x ∷ xs) w h = let p = or_parts (bytes_eq (word_of x) w) (is_one_of xs w) h in (p.0, names_differ xs w p.1)

-- REACHED

-- those that are reached are among all
pub reached_only : (ws : List Word) (xs : List NModule) (w : Word) → is_one_of (reached_among ws xs) w ≡ true → is_one_of xs w ≡ true
reached_only ws [] w h = h
reached_only ws (NModuleOf m imports exports hidden ds ∷ xs) w h = tested (is_among ws m) h (reached_only (ws ++ imports) xs w) (reached_only ws xs w)
  where
    tested : (b : Bool) → is_one_of (if b then NModuleOf m imports exports hidden ds ∷ reached_among (ws ++ imports) xs else reached_among ws xs) w ≡ true
        → (is_one_of (reached_among (ws ++ imports) xs) w ≡ true → is_one_of xs w ≡ true) → (is_one_of (reached_among ws xs) w ≡ true → is_one_of xs w ≡ true)
        → (bytes_eq m w || is_one_of xs w) ≡ true
    tested true h more less =
        by_or (bytes_eq m w) (is_one_of (reached_among (ws ++ imports) xs) w) h (or_left (bytes_eq m w) (is_one_of xs w)) (λ p. or_right (bytes_eq m w) (is_one_of xs w) (more p))
    tested false h more less = or_right (bytes_eq m w) (is_one_of xs w) (less h)

pub not_reached : (ws : List Word) (xs : List NModule) (w : Word) → is_one_of xs w ≡ false → is_one_of (reached_among ws xs) w ≡ false
not_reached ws xs w h = not_passed (is_one_of (reached_among ws xs) w) (is_one_of xs w) (reached_only ws xs w) h

-- one of these words is reached
pub reached_there : (ws : List Word) (xs : List NModule) (w : Word) → is_among ws w ≡ true → is_one_of xs w ≡ true → is_one_of (reached_among ws xs) w ≡ true
reached_there ws [] w a h = h
reached_there ws (NModuleOf m imports exports hidden ds ∷ xs) w a h =
    tested (is_among ws m) refl (reached_there (ws ++ imports) xs w (among_first ws imports w a)) (reached_there ws xs w a)
  where
    tested : (b : Bool) → is_among ws m ≡ b → (is_one_of xs w ≡ true → is_one_of (reached_among (ws ++ imports) xs) w ≡ true) → (is_one_of xs w ≡ true → is_one_of (reached_among ws xs) w ≡ true)
        → is_one_of (if b then NModuleOf m imports exports hidden ds ∷ reached_among (ws ++ imports) xs else reached_among ws xs) w ≡ true
    tested true e p q = by_or (bytes_eq m w) (is_one_of xs w) h (or_left (bytes_eq m w) (is_one_of (reached_among (ws ++ imports) xs) w)) (λ o. or_right (bytes_eq m w) (is_one_of (reached_among (ws ++ imports) xs) w) (p o))
    tested false e p q = by_or (bytes_eq m w) (is_one_of xs w) h (λ same. false_true (sym e ∙ ap (is_among ws) (bytes_eq_eq m w same) ∙ a)) q

-- more words reach more
pub reached_more : (vs ws : List Word) (xs : List NModule) (w : Word) → ((u : Word) → is_among vs u ≡ true → is_among ws u ≡ true)
    → is_one_of (reached_among vs xs) w ≡ true → is_one_of (reached_among ws xs) w ≡ true
reached_more vs ws [] w more h = h
reached_more vs ws (NModuleOf m imports exports hidden ds ∷ xs) w more h =
    tested (is_among vs m) refl (is_among ws m) refl h (reached_more (vs ++ imports) (ws ++ imports) xs w (among_more vs ws imports more))
    (reached_more vs (ws ++ imports) xs w (λ u p. among_first ws imports u (more u p))) (reached_more vs ws xs w more)
  where
    tested : (b : Bool) → is_among vs m ≡ b → (c : Bool) → is_among ws m ≡ c → is_one_of (if b then NModuleOf m imports exports hidden ds ∷ reached_among (vs ++ imports) xs else reached_among vs xs) w ≡ true
        → (is_one_of (reached_among (vs ++ imports) xs) w ≡ true → is_one_of (reached_among (ws ++ imports) xs) w ≡ true) → (is_one_of (reached_among vs xs) w ≡ true → is_one_of (reached_among (ws ++ imports) xs) w ≡ true)
        → (is_one_of (reached_among vs xs) w ≡ true → is_one_of (reached_among ws xs) w ≡ true) → is_one_of (if c then NModuleOf m imports exports hidden ds ∷ reached_among (ws ++ imports) xs else reached_among ws xs) w ≡ true
    tested true e true f h p q r =
        by_or (bytes_eq m w) (is_one_of (reached_among (vs ++ imports) xs) w) h (or_left (bytes_eq m w) (is_one_of (reached_among (ws ++ imports) xs) w)) (λ o. or_right (bytes_eq m w) (is_one_of (reached_among (ws ++ imports) xs) w) (p o))
    tested true e false f h p q r = false_true (sym f ∙ more m e)
    tested false e true f h p q r = or_right (bytes_eq m w) (is_one_of (reached_among (ws ++ imports) xs) w) (q h)
    tested false e false f h p q r = r h

-- one that is reached declares what it does among all
pub reached_found : (ws : List Word) (xs : List NModule) → HaveOwnNames xs → (w : Word) → is_one_of (reached_among ws xs) w ≡ true
    → decls_of_module xs w ≡ decls_of_module (reached_among ws xs) w
reached_found ws [] own w h = refl
reached_found ws (NModuleOf m imports exports hidden ds ∷ xs) own w h =
    tested (is_among ws m) h (reached_found (ws ++ imports) xs own.1 w) (reached_found ws xs own.1 w)
  where
    either : (ys : List NModule) (c : Bool) → (c || is_one_of ys w) ≡ true → (is_one_of ys w ≡ true → decls_of_module xs w ≡ decls_of_module ys w) → (if c then ds else decls_of_module xs w) ≡ (if c then ds else decls_of_module ys w)
    either ys true h p = refl
    either ys false h p = p h

    tested : (b : Bool) → is_one_of (if b then NModuleOf m imports exports hidden ds ∷ reached_among (ws ++ imports) xs else reached_among ws xs) w ≡ true
        → (is_one_of (reached_among (ws ++ imports) xs) w ≡ true → decls_of_module xs w ≡ decls_of_module (reached_among (ws ++ imports) xs) w) → (is_one_of (reached_among ws xs) w ≡ true → decls_of_module xs w ≡ decls_of_module (reached_among ws xs) w)
        → (if bytes_eq m w then ds else decls_of_module xs w) ≡ decls_of_module (if b then NModuleOf m imports exports hidden ds ∷ reached_among (ws ++ imports) xs else reached_among ws xs) w
    tested true h p q = either (reached_among (ws ++ imports) xs) (bytes_eq m w) h p
    tested false h p q = ap (λ b. if b then ds else decls_of_module xs w) (other_name xs m w own.0 (reached_only ws xs w h)) ∙ q h

-- more words that are reached anyway reach the same
pub reached_same : (vs ws : List Word) (xs : List NModule) → HaveOwnNames xs → ((u : Word) → is_among vs u ≡ true → is_among ws u ≡ true)
    → ((u : Word) → is_one_of xs u ≡ true → is_among ws u ≡ true → is_one_of (reached_among vs xs) u ≡ true) → reached_among ws xs ≡ reached_among vs xs
reached_same vs ws [] own more less = refl
reached_same vs ws (NModuleOf m imports exports hidden ds ∷ xs) own more less =
    tested (is_among vs m) refl (is_among ws m) refl less (reached_same (vs ++ imports) (ws ++ imports) xs own.1 (among_more vs ws imports more)) (reached_same vs ws xs own.1 more)
  where
    tested : (b : Bool) → is_among vs m ≡ b → (c : Bool) → is_among ws m ≡ c
        → ((u : Word) → (bytes_eq m u || is_one_of xs u) ≡ true → is_among ws u ≡ true
        → is_one_of (if b then NModuleOf m imports exports hidden ds ∷ reached_among (vs ++ imports) xs else reached_among vs xs) u ≡ true)
        → (((u : Word) → is_one_of xs u ≡ true → is_among (ws ++ imports) u ≡ true → is_one_of (reached_among (vs ++ imports) xs) u ≡ true)
        → reached_among (ws ++ imports) xs ≡ reached_among (vs ++ imports) xs)
        → (((u : Word) → is_one_of xs u ≡ true → is_among ws u ≡ true → is_one_of (reached_among vs xs) u ≡ true) → reached_among ws xs ≡ reached_among vs xs)
        → (if c then NModuleOf m imports exports hidden ds ∷ reached_among (ws ++ imports) xs else reached_among ws xs)
        ≡ (if b then NModuleOf m imports exports hidden ds ∷ reached_among (vs ++ imports) xs else reached_among vs xs)
    tested true e true f less p q =
        ap (λ ys. NModuleOf m imports exports hidden ds ∷ ys)
        (p (λ u one a. by_or (is_among ws u) (is_among imports u) (sym (list_any-append (λ v. bytes_eq v u) ws imports) ∙ a)
        (λ d. by_or (bytes_eq m u) (is_one_of (reached_among (vs ++ imports) xs) u) (less u (or_right (bytes_eq m u) (is_one_of xs u) one) d)
        (λ g. false_true (sym (other_name xs m u own.0 one) ∙ g)) (λ g. g))
        (λ d. reached_there (vs ++ imports) xs u (among_second vs imports u d) one)))
    tested true e false f less p q = false_true (sym f ∙ more m e)
    tested false e true f less p q =
        false_true (sym own.0 ∙ reached_only vs xs m (less m (or_left (bytes_eq m m) (is_one_of xs m) (bytes_eq_refl m)) f))
    tested false e false f less p q = q (λ u one a. less u (or_right (bytes_eq m u) (is_one_of xs u) one) a)

-- what holds of all holds of those that are reached
pub each_reached : (P : NModule → Type 0) (ws : List Word) (xs : List NModule) → Each P xs → Each P (reached_among ws xs)
each_reached P ws [] h = tt
each_reached P ws (NModuleOf m imports exports hidden ds ∷ xs) h = tested (is_among ws m) (each_reached P (ws ++ imports) xs h.1) (each_reached P ws xs h.1)
  where
    tested : (b : Bool) → Each P (reached_among (ws ++ imports) xs) → Each P (reached_among ws xs)
        → Each P (if b then NModuleOf m imports exports hidden ds ∷ reached_among (ws ++ imports) xs else reached_among ws xs)
    tested true p q = (h.0, p)
    tested false p q = q
