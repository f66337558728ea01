-- The kind and the content of a word, and the fields of a channel's head.
use Rattle.std.proofs.Common.{◌≡◌, ℕ, ◌<◌, arith}
use Rattle.words.specs.Format.{kind_of, content_of, word_of, ends_content}
use Rattle.words.specs.Records.{writer_in, reader_in, writes_in, reads_in}

-- a word of kind k is made of it and of its content
pub word_again : (w k : ℕ) → kind_of w ≡ k → w ≡ word_of k (content_of w)
word_again w k e = omega arith

-- the fields of a channel's head

module _ (w r n m : ℕ) (sw : w < 256) (sr : r < 256) (sn : n < 16) (sm : m < 16) where
  pub writer_field : writer_in (ends_content w r n m) ≡ w
  writer_field = omega arith

  pub reader_field : reader_in (ends_content w r n m) ≡ r
  reader_field = omega arith

  pub writes_field : writes_in (ends_content w r n m) ≡ n
  writes_field = omega arith

  pub reads_field : reads_in (ends_content w r n m) ≡ m
  reads_field = omega arith

  pub ends_small : ends_content w r n m < 16777216
  ends_small = omega arith

pub writer_small : (c : ℕ) → writer_in c < 256
writer_small c = omega arith

pub reader_small : (c : ℕ) → reader_in c < 256
reader_small c = omega arith

pub writes_small : (c : ℕ) → writes_in c < 16
writes_small c = omega arith

pub reads_small : (c : ℕ) → reads_in c < 16
reads_small c = omega arith

pub ends_again : (c : ℕ) → c < 16777216 → c ≡ ends_content (writer_in c) (reader_in c) (writes_in c) (reads_in c)
ends_again c h = grind arith
