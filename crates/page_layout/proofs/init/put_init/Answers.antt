use Rattle.page_layout.proofs.init.put_init.Goals as goal

pub returns : goal.returns
returns c = let e = rw c.requires.size at (c.fill.ensures.after (λ y h. h)) in rw (c.put_u16-4.ensures, c.put_u16-3.ensures, c.put_u16-2.ensures, c.put_u16.ensures, e)
