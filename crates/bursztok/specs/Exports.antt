-- What the exports leave behind: the outcome's number and place in C's structs, beside what the calls' own definitions say of the memory.
use Rattle.std.specs.Prelude.{cond, List, ℕ, ◌-◌, eqb, ℤ, length}
use Rattle.answers.specs.Outcomes.{Outcome, number_of, place_of, Filled, filled}
use Rattle.commitment.specs.Commitment.{WithRests, with_rests}
use Rattle.signing.specs.Response.{Responded, responded}
use Rattle.record_forms.specs.Sections.{Fetched, fetched}
use Rattle.records.specs.Reader.{Found, found}
use Rattle.bursztok.specs.declared.Answer.{Answer}
use Rattle.bursztok.specs.declared.Response.{Response}
use Rattle.bursztok.specs.declared.Reading.{Reading}
use Rattle.bursztok.specs.declared.Part.{Part}

abbrev pub answer_of : Outcome → Answer
answer_of o = record { number = number_of o; place = place_of o }

-- an answer, and the contents of the output
pub data Left : Type 0 where
  left : Answer → List ℕ → Left

abbrev pub left_by : Filled → Left
left_by (filled o out) = left (answer_of o) out

-- the answer of the commitment with rests, and the contents of the vectors of digits and of rests
pub data LeftWithRests : Type 0 where
  left_with_rests : Answer → List ℕ → List ℤ → LeftWithRests

abbrev pub left_with_rests_by : WithRests → LeftWithRests
left_with_rests_by (with_rests o digits rests) = left_with_rests (answer_of o) digits rests

abbrev pub response_with : Outcome → ℕ → ℕ → Response
response_with o words key = record { number = number_of o; place = place_of o; words = words; key = key }

-- the response's answer, and the contents of the vectors z1 and z2 dagger
pub data Replied : Type 0 where
  replied : Response → List ℤ → List ℤ → Replied

abbrev pub replied_by : Responded → Replied
replied_by (responded o words key z1 z2) = replied (response_with o words key) z1 z2

abbrev pub reading_with : Outcome → ℕ → ℕ → Reading
reading_with o set key = record { number = number_of o; place = place_of o; set = set; key = key }

-- the reader's answer, and the contents of the buffers of z1, z2 dagger and the list
pub data Stored : Type 0 where
  stored : Reading → List ℤ → List ℤ → List ℕ → Stored

abbrev pub stored_by : Found → Stored
stored_by (found o set key b) = stored (reading_with o set key) b.z1 b.z2 b.list

-- a part of the lent record, and the contents of the lent numbers
pub data Located : Type 0 where
  located : Part → ℕ → ℕ → Located

-- where the part lies in a record that lies at `at`, and how many bytes it has
abbrev pub located_by : ℕ × ℕ → Fetched → Located
located_by at (fetched p bytes number place) = located (record { start = p.1 - at.1; length = length bytes }) number place

-- the part that a section call with this number answers
abbrev pub part_at : ℕ → ℕ → ℕ → Part
part_at number offset count = record { start = cond (eqb number 0) offset 0; length = count }
