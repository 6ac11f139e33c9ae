use Rattle.sec1_c.proofs.key.sec1_key_read.Goals as goal

pub returns-in-Ok-clause-short : goal.returns-in-Ok-clause-short
returns-in-Ok-clause-short c key whole is begins = absurd (c.in-Ok.ensures.short key whole is begins)

pub returns-in-Ok-clause-long : goal.returns-in-Ok-clause-long
returns-in-Ok-clause-long c key whole is begins = absurd (c.in-Ok.ensures.long key whole is begins)

pub returns-in-Err-clause-short : goal.returns-in-Err-clause-short
returns-in-Err-clause-short c key whole is begins =
    c.error_number.ensures.kind _ (c.in-Err.ensures.short key whole is begins)

pub returns-in-Err-clause-long : goal.returns-in-Err-clause-long
returns-in-Err-clause-long c key whole is begins =
    c.error_number.ensures.kind _ (c.in-Err.ensures.long key whole is begins)
