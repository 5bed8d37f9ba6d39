-- Plain words, which are always accepted.
use Rattle.std.specs.Prelude.{◌≡◌, ◌≢◌, ◌≤◌, ⊤, ℕ, Bool, List, [], ◌∷◌, ◌++◌, codes, decimal, map, Some, if◌then◌else◌}
use Rattle.fc_words.specs.declared.Tuning.{Tuning}
use Rattle.fc_words.specs.Asking.{Asked, Building, Explaining, Linting, asked}

-- an option with its value
pub data Setting : Type 0 where
  Ticks : (n : ℕ) → Setting
  Small : (n : ℕ) → Setting
  Grow : (n : ℕ) → Setting
  Out : (prefix : List ℕ) → Setting

abbrev pub setting_name : Setting → List ℕ
setting_name (Ticks n) = codes "ticks"
setting_name (Small n) = codes "small"
setting_name (Grow n) = codes "grow"
setting_name (Out prefix) = codes "out"

-- numbers stand in decimal digits, without leading zeros
abbrev pub setting_value : Setting → List ℕ
setting_value (Ticks n) = decimal n
setting_value (Small n) = decimal n
setting_value (Grow n) = decimal n
setting_value (Out prefix) = prefix

-- an option as it is written: `--x=v` where it is joined, and else `--x v`
pub record Written : Type 0 where
  pub setting : Setting
  pub is_joined : Bool

abbrev pub spelled_one : Written → List (List ℕ)
spelled_one w =
    if w.is_joined then (codes "--" ++ (setting_name w.setting ++ 61 ∷ setting_value w.setting)) ∷ []
    else (codes "--" ++ setting_name w.setting) ∷ setting_value w.setting ∷ []

abbrev pub spelled : List Written → List (List ℕ)
spelled [] = []
spelled (w ∷ ws) = spelled_one w ++ spelled ws

-- a text that is not empty and does not begin with a hyphen
abbrev pub IsPlainText : List ℕ → Type 0
IsPlainText [] = ⊥
IsPlainText (x ∷ xs) = x ≢ 45

abbrev pub ArePlainTexts : List (List ℕ) → Type 0
ArePlainTexts [] = ⊤
ArePlainTexts (t ∷ ts) = IsPlainText t × ArePlainTexts ts

-- the number is within its range
abbrev pub IsWithinRange : Setting → Type 0
IsWithinRange (Ticks n) = n ≤ 1000000
IsWithinRange (Small n) = n ≤ 10000
IsWithinRange (Grow n) = n ≤ 10000
IsWithinRange (Out prefix) = IsPlainText prefix

-- none of these options has this name
abbrev pub IsAbsent : List ℕ → List Written → Type 0
IsAbsent name [] = ⊤
IsAbsent name (w ∷ ws) = (name ≢ setting_name w.setting) × IsAbsent name ws

-- each option at most once, in any order, and within its range
abbrev pub ArePlainOptions : List Written → Type 0
ArePlainOptions [] = ⊤
ArePlainOptions (w ∷ ws) = IsWithinRange w.setting × IsAbsent (setting_name w.setting) ws × ArePlainOptions ws

-- WHAT THEY ASK FOR

-- the value written, else the default
abbrev pub ticks_of : List Setting → ℕ
ticks_of [] = 2000
ticks_of (Ticks n ∷ ss) = n
ticks_of (Small n ∷ ss) = ticks_of ss
ticks_of (Grow n ∷ ss) = ticks_of ss
ticks_of (Out prefix ∷ ss) = ticks_of ss

abbrev pub small_of : List Setting → ℕ
small_of [] = 30
small_of (Ticks n ∷ ss) = small_of ss
small_of (Small n ∷ ss) = n
small_of (Grow n ∷ ss) = small_of ss
small_of (Out prefix ∷ ss) = small_of ss

abbrev pub grow_of : List Setting → ℕ
grow_of [] = 300
grow_of (Ticks n ∷ ss) = grow_of ss
grow_of (Small n ∷ ss) = grow_of ss
grow_of (Grow n ∷ ss) = n
grow_of (Out prefix ∷ ss) = grow_of ss

abbrev pub out_of : List Setting → List ℕ
out_of [] = codes "./"
out_of (Ticks n ∷ ss) = out_of ss
out_of (Small n ∷ ss) = out_of ss
out_of (Grow n ∷ ss) = out_of ss
out_of (Out prefix ∷ ss) = prefix

abbrev pub settings_of : List Written → List Setting
settings_of = map (λ w. w.setting)

abbrev pub tuning_of : List Setting → Tuning
tuning_of ss = record { ticks = ticks_of ss; small = small_of ss; grow = grow_of ss }

abbrev pub build_of : List Setting → List ℕ → List (List ℕ) → Asked
build_of ss file others = record { order = Building (tuning_of ss) (out_of ss); file = file; others = others }

abbrev pub why_of : List Setting → List ℕ → List (List ℕ) → Asked
why_of ss file others = record { order = Explaining (tuning_of ss); file = file; others = others }

-- `build`, then options, then one or more files
abbrev pub PlainBuild : Type 0
PlainBuild = (options : List Written) (file : List ℕ) (others : List (List ℕ)) → ArePlainOptions options → ArePlainTexts (file ∷ others)
    → small_of (settings_of options) ≤ grow_of (settings_of options)
    → asked (codes "build" ∷ (spelled options ++ file ∷ others)) ≡ Some (build_of (settings_of options) file others)

-- `why`, then options but `--out`, then one or more files
abbrev pub PlainWhy : Type 0
PlainWhy = (options : List Written) (file : List ℕ) (others : List (List ℕ)) → ArePlainOptions options → IsAbsent (codes "out") options → ArePlainTexts (file ∷ others)
    → small_of (settings_of options) ≤ grow_of (settings_of options)
    → asked (codes "why" ∷ (spelled options ++ file ∷ others)) ≡ Some (why_of (settings_of options) file others)

-- `lint`, then one or more files
abbrev pub PlainLint : Type 0
PlainLint = (file : List ℕ) (others : List (List ℕ)) → ArePlainTexts (file ∷ others)
    → asked (codes "lint" ∷ file ∷ others) ≡ Some (record { order = Linting; file = file; others = others })

-- plain words, for each command
pub data IsPlain : List (List ℕ) → Type 0 where
  plain_for_build : (options : List Written) (file : List ℕ) (others : List (List ℕ)) → ArePlainOptions options → ArePlainTexts (file ∷ others)
      → small_of (settings_of options) ≤ grow_of (settings_of options) → IsPlain (codes "build" ∷ (spelled options ++ file ∷ others))
  plain_for_why : (options : List Written) (file : List ℕ) (others : List (List ℕ)) → ArePlainOptions options → IsAbsent (codes "out") options → ArePlainTexts (file ∷ others)
      → small_of (settings_of options) ≤ grow_of (settings_of options) → IsPlain (codes "why" ∷ (spelled options ++ file ∷ others))
  plain_for_lint : (file : List ℕ) (others : List (List ℕ)) → ArePlainTexts (file ∷ others) → IsPlain (codes "lint" ∷ file ∷ others)
