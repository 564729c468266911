use Rattle.theory_calls.specs.File.{size}
use Rattle.bristol_file.proofs.FileLaws.{header_put}
use Rattle.bristol_file.proofs.put_header.Goals as goal

pub returns : goal.returns
unfolding size
returns c = let e = header_put _ _ _ _ _ _ _ _ _ _ _ _ _ _ _ _ _ _ _ _ (c.put_u32-a.ensures.to_after, c.put_u32-a.ensures.value) (c.put_u32-b.ensures.to_after, c.put_u32-b.ensures.value) (c.put_u32-c.ensures.to_after, c.put_u32-c.ensures.value) (c.put_u32-d.ensures.to_after, c.put_u32-d.ensures.value) (c.put_u32-e.ensures.to_after, c.put_u32-e.ensures.value) (c.put_u32-f.ensures.to_after, c.put_u32-f.ensures.value) (c.put_u32-h.ensures.to_after, c.put_u32-h.ensures.value) (c.put_u32.ensures.to_after, c.put_u32.ensures.value) in record { room_after = e.0; value = e.1 }
