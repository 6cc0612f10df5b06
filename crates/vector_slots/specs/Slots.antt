-- Where a slot's bytes are.
use Rattle.std.specs.Prelude.{ℕ, List, [], map, get_or}
use Rattle.vector_slots.specs.declared.slots.Row.{Row}
use Rattle.vector_slots.specs.declared.slots.Slot.{Slot}
use Rattle.vector_slots.specs.declared.slots.Slot.TheVariants.{F, G, A, Y1, Y2, List as Places, HashedList, Thresholds, Words, Z1, Z2, Record, WantedRounded, WantedZ1, WantedZ2, WantedList, WantedRecord, WantedRests}

-- the place of a slot's row
abbrev pub row_of : Slot → ℕ
row_of F = 0
row_of G = 1
row_of A = 2
row_of Y1 = 3
row_of Y2 = 4
row_of Places = 5
row_of HashedList = 6
row_of Thresholds = 7
row_of Words = 8
row_of Z1 = 9
row_of Z2 = 10
row_of Record = 11
row_of WantedRounded = 12
row_of WantedZ1 = 13
row_of WantedZ2 = 14
row_of WantedList = 15
row_of WantedRecord = 16
row_of WantedRests = 17

-- the bytes of a slot
abbrev pub bytes_in : List Row → Slot → List ℕ
bytes_in rows slot = get_or (map (λ row. row.bytes) rows) (row_of slot) []
