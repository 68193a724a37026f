-- What is held of the replies of a registry, and what it says.
use Rattle.std.specs.BTreeMap.{get}
use Rattle.std.specs.Prelude.{Bool, true, false, is_some, Option, Some, None, option_map}
use Rattle.spm_key.specs.KeyLaws.{key_cmp}
use Rattle.spm_key.specs.declared.key.Key.{Key}
use Rattle.spm_key.specs.declared.reply.Reply.{Reply}
use Rattle.spm_api.specs.Said.{reply_said}
use Rattle.spm_api.specs.declared.replies.Said.{Said}
use Rattle.spm_api.specs.declared.replies.Said.TheVariants.{TooMany}
use Rattle.pub_plain.specs.Answers.{Answers, unless_refused}
use Rattle.spm_judge.specs.declared.held.HeldReplies.{HeldReplies}

-- the reply of a key, where it is held
abbrev pub Held : Type 0
Held = Key → Option Reply

-- what replies by their keys hold
abbrev pub held_in : HeldReplies → Held
held_in replies = λ asked. get key_cmp replies.by_key asked

-- what the replies that are held say, but for those that are refused
abbrev pub says_of : Held → Answers
says_of held = λ asked. unless_refused (option_map (reply_said asked) (held asked))

abbrev pub is_held : Held → Key → Bool
is_held held asked = is_some (held asked)

-- a key is answered where something is said of it, and not that its list is too long
abbrev pub is_answer : Option Said → Bool
is_answer None = false
is_answer (Some TooMany) = false
is_answer (Some said) = true
