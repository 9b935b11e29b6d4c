mod LastLaws
mod FewLaws
mod FilledLaws
