use Rattle.listing_text.proofs.TextLaws.{line_put}
use Rattle.listing_text.proofs.put_line.Goals as goal

pub returns : goal.returns
returns c = let e = line_put _ _ _ _ _ _ _ _ _ _ _ (c.put_item-a.ensures.text_after, c.put_item-a.ensures.value) (c.put_item-b.ensures.text_after, c.put_item-b.ensures.value) (c.put_bytes.ensures.to_after, c.put_bytes.ensures.value) in record { text_after = e.0; value = e.1 }
