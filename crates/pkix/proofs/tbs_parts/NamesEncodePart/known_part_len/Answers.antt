use Rattle.pkix.proofs.tbs_parts.NamesEncodePart.known_part_len.Goals as goal

pub returns : goal.returns
returns c = rw (← c.self.view_is) c.known_part_len.ensures
