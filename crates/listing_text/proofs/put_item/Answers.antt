use Rattle.listing_text.proofs.TextLaws.{item_made}
use Rattle.listing_text.proofs.put_item.Goals as goal

pub returns : goal.returns
returns c = let e = item_made _ _ _ _ _ _ _ _ (c.put_bytes-e.ensures.to_after, c.put_bytes-e.ensures.value) (c.put_decimal.ensures.text_after, c.put_decimal.ensures.value) in record { text_after = e.0; value = e.1 }
