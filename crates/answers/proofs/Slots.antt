-- The parameters of the calls when a call is over, by their names. What a contract admits speaks of them as one row, in the order of the parameters;
-- here each has a type of its own, so that no other can stand in its place. Assumes nothing.

-- commitment(set, a, y1, y2, out)
module _ {set a y1 y2 out rest : Type 0} where
  abbrev pub commitment_out : set × (a × (y1 × (y2 × (out × rest)))) → out
  commitment_out lent = lent.1.1.1.1.0

-- commitment_with_rests(set, a, y1, y2, out, rests)
module _ {set a y1 y2 out rests rest : Type 0} where
  abbrev pub with_rests_out : set × (a × (y1 × (y2 × (out × (rests × rest))))) → out
  with_rests_out lent = lent.1.1.1.1.0

  abbrev pub with_rests_rests : set × (a × (y1 × (y2 × (out × (rests × rest))))) → rests
  with_rests_rests lent = lent.1.1.1.1.1.0

-- respond(set, key, f, g, a, y1, y2, list, sign, thresholds, words, z1, z2)
module _ {set key f g a y1 y2 list sign thresholds words z1 z2 rest : Type 0} where
  abbrev pub response_z1 : set × (key × (f × (g × (a × (y1 × (y2 × (list × (sign × (thresholds × (words × (z1 × (z2 × rest)))))))))))) → z1
  response_z1 lent = lent.1.1.1.1.1.1.1.1.1.1.1.0

  abbrev pub response_z2 : set × (key × (f × (g × (a × (y1 × (y2 × (list × (sign × (thresholds × (words × (z1 × (z2 × rest)))))))))))) → z2
  response_z2 lent = lent.1.1.1.1.1.1.1.1.1.1.1.1.0

-- rebuild(set, a, z1, z2, list, out)
module _ {set a z1 z2 list out rest : Type 0} where
  abbrev pub rebuild_out : set × (a × (z1 × (z2 × (list × (out × rest))))) → out
  rebuild_out lent = lent.1.1.1.1.1.0

-- write(set, key, z1, z2, list, out)
module _ {set key z1 z2 list out rest : Type 0} where
  abbrev pub write_out : set × (key × (z1 × (z2 × (list × (out × rest))))) → out
  write_out lent = lent.1.1.1.1.1.0

-- read(rec, z1, z2, list)
module _ {rec z1 z2 list rest : Type 0} where
  abbrev pub read_z1 : rec × (z1 × (z2 × (list × rest))) → z1
  read_z1 lent = lent.1.0

  abbrev pub read_z2 : rec × (z1 × (z2 × (list × rest))) → z2
  read_z2 lent = lent.1.1.0

  abbrev pub read_list : rec × (z1 × (z2 × (list × rest))) → list
  read_list lent = lent.1.1.1.0

-- a writer(form, set, key, z1, z2, list, out)
module _ {form set key z1 z2 list out rest : Type 0} where
  abbrev pub writer_out : form × (set × (key × (z1 × (z2 × (list × (out × rest)))))) → out
  writer_out lent = lent.1.1.1.1.1.1.0

-- a reader(form, rec, z1, z2, list)
module _ {form rec z1 z2 list rest : Type 0} where
  abbrev pub reader_z1 : form × (rec × (z1 × (z2 × (list × rest)))) → z1
  reader_z1 lent = lent.1.1.0

  abbrev pub reader_z2 : form × (rec × (z1 × (z2 × (list × rest)))) → z2
  reader_z2 lent = lent.1.1.1.0

  abbrev pub reader_list : form × (rec × (z1 × (z2 × (list × rest)))) → list
  reader_list lent = lent.1.1.1.1.0

-- convert(from, to, rec, out)
module _ {from to rec out rest : Type 0} where
  abbrev pub convert_out : from × (to × (rec × (out × rest))) → out
  convert_out lent = lent.1.1.1.0

-- pack(rec, out), unpack(rec, out)
module _ {rec out rest : Type 0} where
  abbrev pub conversion_out : rec × (out × rest) → out
  conversion_out lent = lent.1.0

-- a section call(rec, number, place)
module _ {rec number place rest : Type 0} where
  abbrev pub section_number : rec × (number × (place × rest)) → number
  section_number lent = lent.1.0

  abbrev pub section_place : rec × (number × (place × rest)) → place
  section_place lent = lent.1.1.0
