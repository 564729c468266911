use Rattle.listing_text.proofs.TextLaws.{head_put}
use Rattle.listing_text.proofs.put_head.Goals as goal

pub returns : goal.returns
returns c = let e = head_put _ _ _ _ _ _ _ _ _ _ _ (c.put_counts-a.ensures.text_after, c.put_counts-a.ensures.value) (c.put_item-b.ensures.text_after, c.put_item-b.ensures.value) (c.put_bytes.ensures.to_after, c.put_bytes.ensures.value) in record { text_after = e.0; value = e.1 }
