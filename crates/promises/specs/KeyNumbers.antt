-- 02, C-13: which key signed a sheet. Each statement is proved in proofs/KeyNumbers.antt under its own name. The round trips that keep the key number are records'
-- `RoundTrip` and `Conversions`; that the number read is the number lent to the response is agreement's `SaysYes`.
use Rattle.std.specs.Prelude.{◌≡◌, List, ℕ, ◌+◌, ◌*◌, ◌/◌, ◌%◌, ℤ, length, take, drop, get_or}
use Rattle.answers.specs.Outcomes.{Outcome, number_of, key_with, filled}
use Rattle.signing.specs.Response.{Lent, responded, response}
use Rattle.record_forms.specs.declared.Form.{Form}
use Rattle.record_forms.specs.Headers.{key_in, header_in}
use Rattle.records.specs.Writer.{Offered, writing_of}
use Rattle.records.specs.Reader.{Buffers, Found, found, reading_of}

-- "Bytes 20-23 of both record forms become the key number, low byte first": in what a writer wrote, byte by byte
abbrev pub KeyBytes : Type 0
KeyBytes =
    (form : Form) (a : Offered) (out : List ℕ) (o : Outcome) (after : List ℕ)
    → writing_of form a out ≡ filled o after
    → number_of o ≡ 0
    → (get_or after 20 0 ≡ a.key % 256)
    × (get_or after 21 0 ≡ a.key / 256 % 256)
    × (get_or after 22 0 ≡ a.key / 65536 % 256)
    × (get_or after 23 0 ≡ a.key / 16777216 % 256)

-- and in what a reader reads: 0 where these bytes are zeros, as in every record from before
abbrev pub KeyRead : Type 0
KeyRead =
    (form : Form) (rec : List ℕ) (b : Buffers) (o : Outcome) (set key : ℕ) (after : Buffers)
    → reading_of form rec b ≡ found o set key after
    → number_of o ≡ 0
    → key ≡ get_or rec 20 0 + 256 * get_or rec 21 0 + 65536 * get_or rec 22 0 + 16777216 * get_or rec 23 0

-- records that differ in bytes 20 to 23 alone
pub record Alike (rec rec' : List ℕ) : Type 0 where
  pub long : length rec ≡ length rec'
  pub before : take 20 rec ≡ take 20 rec'
  pub after : drop 24 rec ≡ drop 24 rec'

-- the same reading with another key number, 0 where it refuses
abbrev pub rekeyed : ℕ → Found → Found
rekeyed key (found o set old after) = found o set (key_with o key) after

-- "13 is no longer given for bytes 20-23": the header's test, which every call on a record makes, does not tell such records apart, and a reader tells them apart
-- by the key number alone
abbrev pub KeyUntested : Type 0
KeyUntested =
    (form : Form) (rec rec' : List ℕ)
    → Alike rec rec'
    → (header_in form rec ≡ header_in form rec') × ((b : Buffers) → reading_of form rec' b ≡ rekeyed (key_in rec') (reading_of form rec b))

-- "the response takes it from its caller": a signature that is given out has the number that was lent, and with another number the response is the same but for it
abbrev pub KeyGivenOut : Type 0
KeyGivenOut =
    (set key : ℕ) (c : Lent) (o : Outcome) (count back : ℕ) (z1 z2 : List ℤ)
    → response set key c ≡ responded o count back z1 z2
    → (number_of o ≡ 0 → back ≡ key)
    × ((other : ℕ) → response set other c ≡ responded o count (key_with o other) z1 z2)
