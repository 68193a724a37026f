-- Asking the server for a key, and reading what it answers.
use Rattle.std.proofs.Common.{Some, sym, subst}
use Rattle.spm_api.proofs.ReplyLaws.{reply_unique}
use Rattle.spm_api.specs.Endpoint.{IsReply}
use Rattle.spm_api.specs.declared.base.Base.{Base}
use Rattle.spm_key.specs.declared.key.Key.{Key}
use Rattle.spm_shelf.specs.declared.file.ShelfFile.{ShelfFile}
use Rattle.spm_server.specs.Answer.{answer_text, content_answer}
use Rattle.spm_server.specs.Content.{content_of}
use Rattle.spm_server.specs.RoundTrip.{ComesBack, reply_for}
use Rattle.spm_server.specs.declared.answering.AnswerParts.{AnswerParts}
use Rattle.spm_server.proofs.AnswerLaws.{key_is_answered, sent_is_answered}
use Rattle.spm_server.proofs.Paths.{path_asks}
use Rattle.spm_server.proofs.ReplyLaws.{shelf_reply}

-- the shelf's contents come back, and nothing else does
pub comes_back : (shelf : ShelfFile) (base : Base) (asked : Key) → ComesBack shelf base asked
comes_back shelf base asked plain askable fits = record {
  there = (
    content_answer (content_of shelf asked),
    sent_is_answered shelf base asked (Some asked) plain (path_asks asked askable.key askable.version) askable.fits,
    shelf_reply shelf asked fits,
  );
  alone = λ answer reply is says.
      reply_unique asked (answer_text answer) reply (reply_for asked (content_of shelf asked)) says
      (subst (λ (found : AnswerParts). IsReply asked (answer_text found) (reply_for asked (content_of shelf asked)))
      (sym (key_is_answered shelf base asked plain askable answer is)) (shelf_reply shelf asked fits));
}
