use Rattle.file_save.proofs.WriteLaws.{words_written}
use Rattle.file_save.proofs.put_words.Goals as goal

pub returns : goal.returns
returns c = words_written c.args.e _ _ _ _ _ _ _ _ c.put_word.ensures c.put_word-2.ensures c.put_word-3.ensures c.put_word-4.ensures c.put_word-5.ensures c.put_word-6.ensures c.put_word-7.ensures
