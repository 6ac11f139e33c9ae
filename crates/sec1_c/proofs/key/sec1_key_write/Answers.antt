use Rattle.sec1_c.proofs.key.sec1_key_write.Goals as goal

pub returns-clause-overlength : goal.returns-clause-overlength
returns-clause-overlength c too =
    c.write_key.ensures.overlength (too.no_bytes c.in-Some.key c.in-Some.ensures.found)
