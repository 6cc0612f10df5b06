-- The section call of each part.
use Rattle.std.specs.Prelude.{List, ℕ}
use Rattle.record_forms.specs.Sections.{Fetched, z1_section, z2_section, list_section}
use Rattle.record_calls.specs.declared.shown.Part.{Part}
use Rattle.record_calls.specs.declared.shown.Part.TheVariants.{Z1, Z2, List as Places}

abbrev pub section_of_part : Part → ℕ × ℕ → List ℕ → Fetched
section_of_part Z1 = z1_section
section_of_part Z2 = z2_section
section_of_part Places = list_section
