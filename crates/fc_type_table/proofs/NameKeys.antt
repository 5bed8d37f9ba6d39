-- The test for names decides whether two keys are of one name.
use Rattle.std.proofs.Common.{◌≡◌, Bool, true, Option, Some, None, Global, bytes_eq, refl, ap, ◌∙◌}
use Rattle.std.specs.Option.{option_eq, option_map}
use Rattle.std.specs.Rc.{rc_str_bytes}
use Rattle.std.specs.declared.rc.RcStr.{RcStr}
use Rattle.std.proofs.lemmas.Bool.{and_parts}
use Rattle.std.proofs.lemmas.Option.{same_Some}
use Rattle.fc_model.proofs.Sameness.{bytes_eq_eq, bytes_eq_refl, false_true}
use Rattle.fc_type_table.specs.Names.{name_from, name_of}
use Rattle.fc_type_table.specs.declared.node.NameKey.{NameKey}
use Rattle.fc_type_table.specs.contracts.node.NameKeyPartialEq.TheImpl as of_keys

abbrev pub key_eq : NameKey → NameKey → Bool
key_eq = of_keys.eq-value.it

abbrev same_bytes : RcStr Global → RcStr Global → Bool
same_bytes v w = bytes_eq (rc_str_bytes v) (rc_str_bytes w)

abbrev word_eq : Option (RcStr Global) → Option (RcStr Global) → Bool
word_eq v w = option_eq same_bytes v w

word_eq-same : (v w : Option (RcStr Global)) → word_eq v w ≡ true → option_map rc_str_bytes v ≡ option_map rc_str_bytes w
word_eq-same None None e = refl
word_eq-same (Some v) (Some w) e = ap (λ x. Some x) (bytes_eq_eq (rc_str_bytes v) (rc_str_bytes w) e)
word_eq-same None (Some w) e = false_true e
word_eq-same (Some v) None e = false_true e

word_eq-of : (v w : Option (RcStr Global)) → option_map rc_str_bytes v ≡ option_map rc_str_bytes w → word_eq v w ≡ true
word_eq-of None None e = refl
word_eq-of (Some v) (Some w) e = ap (λ x. bytes_eq (rc_str_bytes v) x) (same_Some (rc_str_bytes w) (rc_str_bytes v) (cc)) ∙ bytes_eq_refl (rc_str_bytes v)
word_eq-of None (Some w) e = cc
word_eq-of (Some v) None e = cc

pub key_eq-same : (k l : NameKey) → key_eq k l ≡ true → name_of k ≡ name_of l
key_eq-same k l e =
    let p = and_parts (word_eq k.module l.module) (same_bytes k.text l.text) e in
    ap (λ x. name_from x (rc_str_bytes k.text)) (word_eq-same k.module l.module p.0) ∙ ap (λ x. name_from (option_map rc_str_bytes l.module) x) (bytes_eq_eq (rc_str_bytes k.text) (rc_str_bytes l.text) p.1)

pub key_eq-of : (k l : NameKey) → name_of k ≡ name_of l → key_eq k l ≡ true
key_eq-of k l e =
    let texts : rc_str_bytes l.text ≡ rc_str_bytes k.text = cc (ap (λ n. n.text) e) in
    let words : word_eq k.module l.module ≡ true = word_eq-of k.module l.module (ap (λ n. n.module) e) in
    let text : same_bytes k.text l.text ≡ true = ap (λ x. bytes_eq (rc_str_bytes k.text) x) texts ∙ bytes_eq_refl (rc_str_bytes k.text) in
    rw (words, text) refl
