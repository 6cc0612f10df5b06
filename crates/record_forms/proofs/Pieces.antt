-- A buffer that is written piece after piece. Assumes nothing.
use mathlib.Core.Path.{◌≡◌, sym, ap, ◌∙◌}
use mathlib.Core.List.{List, [], ◌++◌, append_assoc, append-nil}
use Prim.Native.Nat.{ℕ, ◌-◌, ◌≤◌}
use borrow.Rule.Slice.PartMut.{put_mid, Post-is}
use lib.Dec.{lit≤}
use lib.ListN.{length, drop}
use lib.Seq.{take_at, drop_at, drop-length}
use Rattle.sets.specs.declared.Set.{Set}
use Rattle.byte_codes.specs.Bytes.{bytes_of}
use Rattle.record_forms.specs.declared.Form.{Form}
use Rattle.record_forms.specs.Forms.{key_offset, header_length}
use Rattle.record_forms.specs.Headers.{fields_of, header_of}
use Rattle.record_forms.proofs.Stated.{fields_long}

-- p fills a buffer up to a, and y is written from a up to b
pub piece : (a b : ℕ) (old p y : List ℕ) → a ≤ b → length p ≡ a → put_mid a (b - a) (p ++ drop a old) y ≡ (p ++ y) ++ drop b old
piece a b old p y h e =
    rw (take_at p (drop a old) a e, drop_at p (drop a old) a e, Post-is a b old h) (sym (append_assoc p y (drop b old)))

-- the fields and the key number fill a header
pub header_pieces : (form : Form) (s : Set) (key : ℕ) (old made fields number : List ℕ) → length old ≡ header_length → fields ≡ made → made ≡ fields_of form s → number ≡ bytes_of 4 key
    → put_mid key_offset (header_length - key_offset) (fields ++ drop key_offset old) number ≡ header_of form s key
unfolding header_of
header_pieces form s key old made fields number long d e f =
    let none : drop header_length old ≡ [] = ap (λ (n : ℕ). drop n old) (sym long) ∙ drop-length old in
    rw (d, e, f, piece key_offset header_length old (fields_of form s) (bytes_of 4 key) (lit≤ tt) (fields_long form s), none)
    (append-nil (fields_of form s ++ bytes_of 4 key))
