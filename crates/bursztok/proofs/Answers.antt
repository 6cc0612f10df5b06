-- Where a section starts. Assumes nothing.
use mathlib.Core.Path.{◌≡◌, ap, ◌∙◌}
use mathlib.Core.Bool.{cond}
use mathlib.Core.List.{List}
use Prim.Native.Nat.{ℕ, ◌+◌, ◌-◌}
use native.Mathlib.Omega.{arith}
use lib.Dec.{eqb}
use lib.ListN.{length}
use Rattle.std.specs.Prelude.{Ok, Err}
use Rattle.answers.specs.Outcomes.{Done}
use Rattle.answers.specs.declared.Refusal.TheVariants.{HeaderMalformed}
use Rattle.record_forms.specs.declared.Form.TheVariants.{Plain}
use Rattle.record_forms.specs.Headers.{Header, header_in, opened}
use Rattle.record_forms.specs.Sections.{fetched, part_of, section_of}
use Rattle.bursztok.specs.declared.Part.{Part}
use Rattle.bursztok.specs.Exports.{located, located_by, part_at}

-- a section starts at its offset, counted from where the record lies, and at 0 where the header is malformed
module _ (from to : ℕ) (at : ℕ × ℕ) (rec : List ℕ) (p : ℕ × ℕ) (bytes : List ℕ) (n m : ℕ) where
  start_in : (h : Header) → fetched p bytes n m ≡ opened h (λ (k : ℕ). part_of 0 0 at rec (Err (HeaderMalformed k))) (λ s. part_of from to at rec Done) → cond (eqb n 0) from 0 ≡ p.1 - at.1
  start_in (Err malformed) e =
      let number : n ≡ 13 = cc in
      let place : p.1 ≡ 0 + at.1 = cc in
      rw (number, place) (omega arith)
  start_in (Ok s) e =
      let number : n ≡ 0 = cc in
      let place : p.1 ≡ from + at.1 = cc in
      rw (number, place) (omega arith)

  pub located_at : (r : Part) → r ≡ part_at n from (length bytes) → fetched p bytes n m ≡ section_of from to at rec → located r n m ≡ located_by at (section_of from to at rec)
  unfolding section_of
  located_at r q e =
      ap (λ (x : Part). located x n m) q
      ∙ ap (λ (k : ℕ). located (record { start = k; length = length bytes }) n m) (start_in (header_in Plain rec) e)
      ∙ ap (located_by at) e
