use Rattle.lru_mailbox.proofs.TieLaws.{put_tied, take_tied, shut_tied, left_tied}
use Rattle.lru_mailbox.proofs.ties.ties_law.Goals as goal

pub returns-clause-puts : goal.returns-clause-puts
returns-clause-puts g c = λ b hash key weight puts takes i slips at tied. put_tied b hash key weight puts takes i slips at tied

pub returns-clause-takes : goal.returns-clause-takes
returns-clause-takes g c = λ b pair rest puts takes i slips first at tied. take_tied b pair rest first puts takes i slips at tied

pub returns-clause-ends : goal.returns-clause-ends
returns-clause-ends g c = λ b puts takes tied. (shut_tied b puts takes tied, left_tied b puts takes tied)
